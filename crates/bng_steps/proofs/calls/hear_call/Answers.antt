use Rattle.std.proofs.Common.{◌∙◌, ap, is_some, sym}
use Rattle.bng_l2tp_wire.specs.View.{said, control_of}
use Rattle.bng_sessions.specs.Sessions.{value_at}
use Rattle.bng_steps.specs.Calls.{is_icrq}
use Rattle.bng_steps.specs.TermRows.{whole}
use Rattle.bng_steps.specs.State.{call_of}
use Rattle.bng_steps.specs.Timers.{does_live}
use Rattle.bng_steps.proofs.Calling.{hears_asked, hears_none, hears_taken}
use Rattle.bng_steps.proofs.Naming.{call_number}
use Rattle.bng_steps.proofs.Serves.{live_there}
use Rattle.bng_steps.proofs.SumsKept.{keeps_same}
use Rattle.bng_steps.proofs.calls.hear_call.Goals as goal

pub returns-then-is_icrq-clause-does : goal.returns-then-is_icrq-clause-does
returns-then-is_icrq-clause-does g c =
    let t = c.args.terms.now in
    let m = control_of c.args.message.now in
    hears_asked c.args.incoming.now.rules.now (whole c.args.served.now t) (whole c.ask_for_call.new.served t) c.args.outs.now.items c.ask_for_call.new.outs.items c.args.incoming.now.at c.args.incoming.now.moment c.args.incoming.now.item.now c.args.number.0 (said c.args.heard) m
    (is_icrq m) (sym c.is_icrq.ensures ∙ c.if-is_icrq.true) (c.ask_for_call.ensures.does t)

pub returns-then-is_icrq-clause-sums : goal.returns-then-is_icrq-clause-sums
returns-then-is_icrq-clause-sums g c = keeps_same c.args.terms.now

pub take_for_call-requires-clause-lives : goal.take_for_call-requires-clause-lives
take_for_call-requires-clause-lives g c =
    let item = c.args.incoming.now.item.now in
    let n = c.args.number.0 in
    let k = c.args.message.now.session in
    let (x, found, lives) = live_there (call_of c.args.served.now item.from n k) (sym c.is_for_call.ensures ∙ c.if-is_for_call.true) in
    ap does_live (call_number item.from n (value_at c.args.served.now.sessions k) x found) ∙ lives

pub take_for_call-requires-clause-found : goal.take_for_call-requires-clause-found
take_for_call-requires-clause-found g c =
    let (x, found, lives) = live_there (call_of c.args.served.now c.args.incoming.now.item.now.from c.args.number.0 c.args.message.now.session) (sym c.is_for_call.ensures ∙ c.if-is_for_call.true) in
    ap is_some found

pub returns-then-is_for_call-clause-does : goal.returns-then-is_for_call-clause-does
returns-then-is_for_call-clause-does g c =
    let t = c.args.terms.now in
    let m = control_of c.args.message.now in
    let (x, found, lives) = live_there (call_of c.args.served.now c.args.incoming.now.item.now.from c.args.number.0 c.args.message.now.session) (sym c.is_for_call.ensures ∙ c.if-is_for_call.true) in
    hears_taken c.args.incoming.now.rules.now (whole c.args.served.now t) (whole c.take_for_call.new.served c.take_for_call.new.terms) c.args.outs.now.items c.take_for_call.new.outs.items c.args.incoming.now.at c.args.incoming.now.moment c.args.incoming.now.item.now c.args.number.0 (said c.args.heard) m
    (is_icrq m) (sym c.is_icrq.ensures ∙ c.if-is_icrq.false) x found lives (c.take_for_call.ensures.does x found)

pub returns-else-is_for_call-clause-does : goal.returns-else-is_for_call-clause-does
returns-else-is_for_call-clause-does g c =
    let t = c.args.terms.now in
    let m = control_of c.args.message.now in
    hears_none c.args.incoming.now.rules.now (whole c.args.served.now t) (whole c.take_for_none.new.served t) c.args.outs.now.items c.take_for_none.new.outs.items c.args.incoming.now.at c.args.incoming.now.moment c.args.incoming.now.item.now c.args.number.0 (said c.args.heard) m
    (is_icrq m) (sym c.is_icrq.ensures ∙ c.if-is_icrq.false) (sym c.is_for_call.ensures ∙ c.if-is_for_call.false) (c.take_for_none.ensures.does t)

pub returns-else-is_for_call-clause-sums : goal.returns-else-is_for_call-clause-sums
returns-else-is_for_call-clause-sums g c = keeps_same c.args.terms.now
