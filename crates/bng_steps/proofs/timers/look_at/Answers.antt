use Rattle.std.proofs.Common.{◌≡◌, ℕ, Option, Some, None, IsSome, refl, subst, sym}
use Rattle.bng_steps.specs.State.{beside_at}
use Rattle.bng_steps.specs.declared.session.Lease.{Lease}
use Rattle.bng_steps.specs.declared.session.Session.{Session}
use Rattle.bng_steps.specs.Passing.{cause_at}
use Rattle.bng_steps.specs.Timed.{LookedOnce, LostTerm}
use Rattle.bng_steps.proofs.Values.{none_some}
use Rattle.bng_steps.proofs.timers.look_at.Goals as goal

-- a term that is over is that of a lease
over_leased : (at : ℕ) (lease : Option Lease) (now cause : ℕ) → cause_at at lease now ≡ Some cause → IsSome lease
over_leased at None now cause e = absurd (none_some cause e)
over_leased at (Some l) now cause e = refl

pub returns-clause-looked : goal.returns-clause-looked
returns-clause-looked g c =
    let r = c.args.incoming.now.rules.now in
    let a = c.args.incoming.now.at in
    let now = c.args.incoming.now.moment in
    let random = c.args.incoming.now.item.now.random in
    let x = c.args.session.now in
    let before = beside_at now c.args.question_count c.args.served.now.tunnels in
    let after = beside_at now c.end_term.result c.end_term.new.served.tunnels in
    subst (λ (k : Option ℕ). LookedOnce k r a now random c.args.passed before x c.end_term.new.session after c.args.terms.now c.end_term.new.terms c.args.outs.now.items c.end_term.new.outs.items) c.in-Some.ensures.cause
    (subst (λ (y : Session). LostTerm y.service c.in-Some.cause r a now random before y c.end_term.new.session after c.args.terms.now c.end_term.new.terms c.args.outs.now.items c.end_term.new.outs.items) c.in-Some.ensures.over c.end_term.ensures.lost)

pub returns-clause-few : goal.returns-clause-few
returns-clause-few g c =
    let some = over_leased c.args.passed c.args.session.now.lease c.args.incoming.now.moment c.in-Some.cause (sym c.in-Some.ensures.cause) in
    c.end_term.ensures.fewer (subst (λ (y : Session). IsSome y.lease) (sym c.in-Some.ensures.over) some)
