use Rattle.std.proofs.Common.{List, sym, subst, ◌∙◌}
use Rattle.bng_base.specs.declared.address.SessionNo.{SessionNo}
use Rattle.bng_steps.specs.Serving.{AreAsking}
use Rattle.bng_steps.proofs.Idle.{is_nothing, is_something, none_waits, one_asks}
use Rattle.bng_steps.proofs.served.Served.has_open.Goals as goal

pub returns-clause-none : goal.returns-clause-none
returns-clause-none g c is handed =
    let s = (g.S.Store.sessions c.self.inside.sessions) in
    let empty = sym c.as_slice.ensures.value ∙ is_nothing c.as_slice.result.now c.is_empty.result c.is_empty.ensures is in
    rw (← c.self.view_is) (none_waits s (subst (λ (ns : List SessionNo). AreAsking s ns) empty c.self.invariant.asking) handed)

pub returns-clause-some : goal.returns-clause-some
returns-clause-some g c is =
    let s = (g.S.Store.sessions c.self.inside.sessions) in
    let asking = subst (λ (ns : List SessionNo). AreAsking s ns) (sym c.as_slice.ensures.value) c.self.invariant.asking in
    rw (← c.self.view_is) (one_asks s c.as_slice.result.now asking (is_something c.as_slice.result.now c.is_empty.result c.is_empty.ensures is))
