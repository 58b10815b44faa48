use Rattle.std.proofs.Common.{◌≡◌, ◌<◌, ◌∙◌, ℕ, List, Some, None, sym, ap, subst, arith, rules}
use Rattle.std.specs.Cmp.{nat_cmp_total}
use Rattle.std.specs.FinMap.{get-from_sorted}
use Rattle.std.specs.Ordering.{nat_cmp}
use Rattle.bng_steps.specs.declared.session.Session.{Session}
use Rattle.bng_sessions.specs.Sessions.{Sessions}
use Rattle.bng_sessions.proofs.Entries.{Inserted, found_some, insert_leaves}
use Rattle.bng_steps.specs.Serving.{AreOfShard}
use Rattle.bng_steps_tests.proofs.PlainLaws.{few, put_seen}
use Rattle.bng_steps.proofs.Serves.{of_shard_put}
use Rattle.bng_steps_tests.proofs.plain.PlainStore.put.Goals as goal

pub unreachable-requires : goal.unreachable-requires
unreachable-requires c =
    let here = rw c.as_slice.ensures.value at c.in-Ok.ensures.here in
    let vacant = rw (← c.self.view_is) at c.requires.vacant in
    found_some nat_cmp nat_cmp_total c.self.inside.sessions.items c.args.number.0 c.self.invariant.sorted c.in-Ok.field-0 here.0 here.1 (sym (get-from_sorted nat_cmp c.self.inside.sessions.items c.args.number.0 c.self.invariant.sorted) ∙ vacant)

leaves : (c : goal.After-insert) → Inserted nat_cmp nat_cmp_total c.self.inside.sessions.items c.insert.new.self.items c.args.number.0 c.args.session
leaves c =
    let bound = rw c.as_slice.ensures.value at c.in-Err.ensures.bound in
    let before = rw c.as_slice.ensures.value at c.in-Err.ensures.before in
    let after = rw c.as_slice.ensures.value at c.in-Err.ensures.after in
    let least = few c.self.inside.shard c.self.inside.sessions.items c.self.invariant.sorted c.self.invariant.of_shard in
    let room = c.self.invariant.room in
    let items = rw (c.insert.ensures.succeeds (omega (arith, least, room))) at c.insert.ensures.items in
    rw items (insert_leaves nat_cmp nat_cmp_total c.self.inside.sessions.items c.args.number.0 c.args.session c.in-Err.place c.self.invariant.sorted bound before after)

pub invariant_of-self : goal.invariant_of-self
invariant_of-self c =
    let is = c.self.invariant in
    let left = leaves c in
    let number = rw (← c.self.view_is) at c.requires.number in
    let room = is.room in
    let capacity = c.insert.ensures.capacity in
    let same = put_seen c.self.inside.shard c.self.inside.sessions.items c.insert.new.self.items is.sorted c.args.number.0 c.args.session left in
    record {
      low = is.low;
      sorted = left.sorted;
      of_shard = subst AreOfShard (sym same) (of_shard_put _ c.args.number.0 c.args.session is.of_shard number);
      room = omega (arith, room, capacity);
    }

pub returns : goal.returns
returns c = rw (← c.self.view_is) (put_seen c.self.inside.shard c.self.inside.sessions.items c.insert.new.self.items c.self.invariant.sorted c.args.number.0 c.args.session (leaves c))
