use Rattle.std.proofs.Common.{◌≡◌, ◌<◌, ◌∙◌, ℕ, List, Some, None, sym, ap, subst, arith, rules}
use Rattle.std.specs.Cmp.{nat_cmp_total}
use Rattle.std.specs.FinMap.{get-from_sorted}
use Rattle.std.specs.Ordering.{nat_cmp}
use Rattle.bng_steps.specs.declared.session.Session.{Session}
use Rattle.bng_sessions.proofs.Entries.{found_here, not_here}
use Rattle.bng_steps_tests.proofs.plain.PlainStore.get.Goals as goal

pub returns-in-Ok : goal.returns-in-Ok
returns-in-Ok c =
    let here = rw c.as_slice.ensures.value at c.in-Ok.ensures.here in
    rw (← c.self.view_is) (ap (λ (e : ℕ × Session). Some e.1) c.index.ensures ∙ sym (get-from_sorted nat_cmp c.self.inside.sessions.items c.args.number.0 c.self.invariant.sorted ∙ found_here nat_cmp nat_cmp_total c.self.inside.sessions.items c.args.number.0 c.self.invariant.sorted c.in-Ok.place here.0 here.1 c.index.result.now))

pub returns-in-Err : goal.returns-in-Err
returns-in-Err c =
    let bound = rw c.as_slice.ensures.value at c.in-Err.ensures.bound in
    let before = rw c.as_slice.ensures.value at c.in-Err.ensures.before in
    let after = rw c.as_slice.ensures.value at c.in-Err.ensures.after in
    rw (← c.self.view_is) (sym (get-from_sorted nat_cmp c.self.inside.sessions.items c.args.number.0 c.self.invariant.sorted ∙ not_here nat_cmp nat_cmp_total c.self.inside.sessions.items c.args.number.0 c.in-Err.field-0 bound before after))
