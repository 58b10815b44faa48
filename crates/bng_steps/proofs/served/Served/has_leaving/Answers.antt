use Rattle.std.proofs.Common.{◌≡◌, List, length, sym, ap, subst, ◌∙◌}
use Rattle.bng_base.specs.declared.address.SessionNo.{SessionNo}
use Rattle.bng_steps.specs.Serving.{AreLeaving}
use Rattle.bng_steps.specs.State.{State, reaped}
use Rattle.bng_steps.proofs.Idle.{all_stay, is_nothing, is_something, none_listed}
use Rattle.bng_steps.proofs.served.Served.has_leaving.Goals as goal

pub returns-clause-none : goal.returns-clause-none
returns-clause-none g c is =
    let s = (g.S.Store.sessions c.self.inside.sessions) in
    let empty = sym c.as_slice.ensures.value ∙ is_nothing c.as_slice.result.now c.is_empty.result c.is_empty.ensures is in
    rw (← c.self.view_is) (all_stay s (subst (λ (ns : List SessionNo). AreLeaving s ns) empty c.self.invariant.leaving))

pub returns-clause-some : goal.returns-clause-some
returns-clause-some g c is stay =
    let numbers = c.as_slice.result.now in
    let counted = c.self.invariant.counted ∙ ap length (sym c.as_slice.ensures.value) in
    let same = subst (λ (v : State). (reaped v).sessions ≡ v.sessions) (sym c.self.view_is) stay in
    is_something numbers c.is_empty.result c.is_empty.ensures is (none_listed (g.S.Store.sessions c.self.inside.sessions) numbers counted same)
