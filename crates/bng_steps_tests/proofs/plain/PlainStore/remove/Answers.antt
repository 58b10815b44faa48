use Rattle.std.proofs.Common.{◌≡◌, ◌<◌, ◌∙◌, ℕ, List, Some, None, sym, ap, subst, arith, rules}
use Rattle.std.specs.Cmp.{nat_cmp_total}
use Rattle.std.specs.FinMap.{get-from_sorted}
use Rattle.std.specs.Ordering.{nat_cmp}
use Rattle.bng_steps.specs.declared.session.Session.{Session}
use Rattle.bng_sessions.proofs.Entries.{Removed, found_here, not_here, nothing_leaves, remove_leaves}
use Rattle.bng_steps.specs.Serving.{AreOfShard}
use Rattle.bng_steps_tests.proofs.PlainLaws.{take_seen}
use Rattle.bng_steps.proofs.Serves.{of_shard_take}
use Rattle.bng_steps_tests.proofs.plain.PlainStore.remove.Goals as goal

leaves : (c : goal.After-remove) → Removed nat_cmp nat_cmp_total c.self.inside.sessions.items c.remove.new.self.items c.args.number.0
leaves c =
    let here = rw c.as_slice.ensures.value at c.in-Ok.ensures.here in
    rw c.remove.ensures.items (remove_leaves nat_cmp nat_cmp_total c.self.inside.sessions.items c.args.number.0 c.in-Ok.place c.self.invariant.sorted here.0 here.1)

pub invariant_of-self : goal.invariant_of-self
invariant_of-self c =
    let is = c.self.invariant in
    let left = leaves c in
    let room = is.room in
    let capacity = c.remove.ensures.capacity in
    let same = take_seen c.self.inside.shard c.self.inside.sessions.items c.remove.new.self.items is.sorted c.args.number.0 left in
    record {
      low = is.low;
      sorted = left.sorted;
      of_shard = subst AreOfShard (sym same) (of_shard_take _ c.args.number.0 is.of_shard);
      room = omega (arith, room, capacity);
    }

pub returns-in-Ok-clause-value : goal.returns-in-Ok-clause-value
returns-in-Ok-clause-value c =
    let here = rw c.as_slice.ensures.value at c.in-Ok.ensures.here in
    rw (← c.self.view_is) (ap (λ (e : ℕ × Session). Some e.1) c.remove.ensures.value ∙ sym (get-from_sorted nat_cmp c.self.inside.sessions.items c.args.number.0 c.self.invariant.sorted ∙ found_here nat_cmp nat_cmp_total c.self.inside.sessions.items c.args.number.0 c.self.invariant.sorted c.in-Ok.place here.0 here.1 _))

pub returns-in-Ok-clause-after : goal.returns-in-Ok-clause-after
returns-in-Ok-clause-after c = rw (← c.self.view_is) (take_seen c.self.inside.shard c.self.inside.sessions.items c.remove.new.self.items c.self.invariant.sorted c.args.number.0 (leaves c))

pub returns-in-Err-clause-value : goal.returns-in-Err-clause-value
returns-in-Err-clause-value c =
    let bound = rw c.as_slice.ensures.value at c.in-Err.ensures.bound in
    let before = rw c.as_slice.ensures.value at c.in-Err.ensures.before in
    let after = rw c.as_slice.ensures.value at c.in-Err.ensures.after in
    rw (← c.self.view_is) (sym (get-from_sorted nat_cmp c.self.inside.sessions.items c.args.number.0 c.self.invariant.sorted ∙ not_here nat_cmp nat_cmp_total c.self.inside.sessions.items c.args.number.0 c.in-Err.field-0 bound before after))

pub returns-in-Err-clause-after : goal.returns-in-Err-clause-after
returns-in-Err-clause-after c =
    let bound = rw c.as_slice.ensures.value at c.in-Err.ensures.bound in
    let before = rw c.as_slice.ensures.value at c.in-Err.ensures.before in
    let after = rw c.as_slice.ensures.value at c.in-Err.ensures.after in
    rw (← c.self.view_is) (take_seen c.self.inside.shard c.self.inside.sessions.items c.self.inside.sessions.items c.self.invariant.sorted c.args.number.0 (nothing_leaves nat_cmp nat_cmp_total c.self.inside.sessions.items c.args.number.0 c.self.invariant.sorted (not_here nat_cmp nat_cmp_total c.self.inside.sessions.items c.args.number.0 c.in-Err.field-0 bound before after)))
