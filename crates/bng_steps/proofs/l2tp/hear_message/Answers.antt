use Rattle.std.proofs.Common.{refl, ap, subst, sym, ◌∙◌}
use Rattle.bng_base.specs.declared.fate.Fate.TheVariants.{Consumed}
use Rattle.bng_l2tp_wire.specs.View.{said, control_of}
use Rattle.bng_steps.specs.Datagrams.{TakesStep}
use Rattle.bng_steps.specs.Doing.{DoesWith}
use Rattle.bng_steps.specs.Placed.{ArePlaced}
use Rattle.bng_steps.specs.TermRows.{whole}
use Rattle.bng_steps.specs.State.{State}
use Rattle.bng_steps.proofs.SumsKept.{keeps_same}
use Rattle.bng_steps.proofs.Tunnelling.{message_passed, message_taken, message_unknown, others_kept, taken_from}
use Rattle.bng_steps.proofs.l2tp.hear_message.Goals as goal

pub take_step-requires-clause-taken : goal.take_step-requires-clause-taken
take_step-requires-clause-taken g c = c.in-Step.ensures.taken

pub take_step-requires-clause-placed : goal.take_step-requires-clause-placed
take_step-requires-clause-placed g c = subst (λ (s : State). ArePlaced c.args.incoming.now.rules.now s.sessions) (sym c.take_message.ensures.after) c.requires.placed

pub take_step-requires-clause-here : goal.take_step-requires-clause-here
take_step-requires-clause-here g c = c.requires.here ∙ sym (ap (λ (s : State). s.sessions.shard) c.take_message.ensures.after)

pub returns-in-Unknown-clause-does : goal.returns-in-Unknown-clause-does
returns-in-Unknown-clause-does g c =
    let t = c.args.terms.now in
    message_unknown c.args.incoming.now.rules.now (whole c.args.served.now t) (whole c.take_message.new.self t) c.args.outs.now.items c.args.outs.now.items c.args.incoming.now.at c.args.incoming.now.moment c.args.incoming.now.item.now (control_of c.args.message.now)
    c.in-Unknown.ensures.answer (ap (λ (s : State). whole s t) c.take_message.ensures.after) refl

pub returns-in-Unknown-clause-sums : goal.returns-in-Unknown-clause-sums
returns-in-Unknown-clause-sums g c = keeps_same c.args.terms.now

pub returns-in-Ignored-clause-does : goal.returns-in-Ignored-clause-does
returns-in-Ignored-clause-does g c =
    let t = c.args.terms.now in
    message_passed c.args.incoming.now.rules.now (whole c.args.served.now t) (whole c.take_message.new.self t) c.args.outs.now.items c.args.outs.now.items c.args.incoming.now.at c.args.incoming.now.moment c.args.incoming.now.item.now (control_of c.args.message.now)
    c.in-Ignored.ensures.answer (ap (λ (s : State). whole s t) c.take_message.ensures.after) refl

pub returns-in-Ignored-clause-sums : goal.returns-in-Ignored-clause-sums
returns-in-Ignored-clause-sums g c = keeps_same c.args.terms.now

pub returns-in-Step-clause-does : goal.returns-in-Step-clause-does
returns-in-Step-clause-does g c =
    let r = c.args.incoming.now.rules.now in
    let s = whole c.args.served.now c.args.terms.now in
    let s' = whole c.take_step.new.served c.take_step.new.terms in
    let outs = c.args.outs.now.items in
    let outs' = c.take_step.new.outs.items in
    let a = c.args.incoming.now.at in
    let moment = c.args.incoming.now.moment in
    let item = c.args.incoming.now.item.now in
    let m = control_of c.args.message.now in
    let n = c.in-Step.number.0 in
    let heard = said c.in-Step.step in
    let t = c.take_message.new.self.tunnels in
    let others = ap (λ (q : State). whole q c.args.terms.now) (others_kept c.args.served.now c.take_message.new.self _ c.take_message.ensures.after) in
    message_taken r s s' outs outs' a moment item m n heard t c.in-Step.ensures.answer (ap (λ (q : State). q.tunnels) c.take_message.ensures.after)
    (taken_from r s s' outs outs' a moment item m n heard t
    (subst (λ (q : State). DoesWith (λ e d. TakesStep heard.call n heard m r q e t d) 10 q s' outs outs' a moment item Consumed) others c.take_step.ensures.does))
