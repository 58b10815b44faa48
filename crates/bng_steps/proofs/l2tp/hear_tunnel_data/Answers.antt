use Rattle.std.proofs.Common.{inl, inr, arith}
use Rattle.bng_l2tp_wire.specs.View.{data_of}
use Rattle.bng_steps.specs.Datagrams.{HearsFor, HearsTunnelData}
use Rattle.bng_steps.specs.Frames.{HearsData}
use Rattle.bng_steps.specs.TermRows.{whole}
use Rattle.bng_steps.specs.State.{call_of}
use Rattle.bng_steps.proofs.Arriving.{does_more}
use Rattle.bng_steps.proofs.Packets.{info_short}
use Rattle.bng_steps.proofs.SumsKept.{keeps_same}
use Rattle.bng_steps.proofs.l2tp.hear_tunnel_data.Goals as goal

pub pass_over-requires-clause-short : goal.pass_over-requires-clause-short
pass_over-requires-clause-short g c =
    omega (arith, c.requires.long, info_short c.args.incoming.now.item.now.frame.payload (data_of c.args.message.now) c.in-Some.info.now c.requires.came.message c.in-Some.ensures.found)

pub returns-in-Some-clause-does : goal.returns-in-Some-clause-does
returns-in-Some-clause-does g c =
    let r = c.args.incoming.now.rules.now in
    let s = whole c.args.served.now c.args.terms.now in
    let item = c.args.incoming.now.item.now in
    let p = data_of c.args.message.now in
    does_more s (whole c.pass_over.new.served c.args.terms.now) c.args.outs.now.items c.pass_over.new.outs.items c.args.incoming.now.at c.args.incoming.now.moment item c.pass_over.result (λ e d. HearsData r s e (call_of s item.from p.tunnel p.session) c.in-Some.info.now d) (λ e d. HearsTunnelData r s e p d) 1 10
    (omega arith) (λ d says. inl (c.in-Some.info.now, c.in-Some.ensures.found, says)) c.pass_over.ensures.does

pub returns-in-Some-clause-sums : goal.returns-in-Some-clause-sums
returns-in-Some-clause-sums g c = keeps_same c.args.terms.now

pub returns-in-None-clause-does : goal.returns-in-None-clause-does
returns-in-None-clause-does g c =
    let r = c.args.incoming.now.rules.now in
    let s = whole c.args.served.now c.args.terms.now in
    let item = c.args.incoming.now.item.now in
    let p = data_of c.args.message.now in
    does_more s (whole c.hear_over.new.served c.hear_over.new.terms) c.args.outs.now.items c.hear_over.new.outs.items c.args.incoming.now.at c.args.incoming.now.moment item c.hear_over.result (λ e d. HearsFor (call_of s item.from p.tunnel p.session) r s e p d) (λ e d. HearsTunnelData r s e p d) 5 10
    (omega arith) (λ d says. inr (c.in-None.ensures.none, says)) c.hear_over.ensures.does
