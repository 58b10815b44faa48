use Rattle.std.proofs.Common.{◌≡◌, ◌≤◌, ℕ, [], length, map, vec_capacity}
use Rattle.std.specs.List.{range_with_len}
use Rattle.bng_desk.proofs.opening.empties.Given as goal

abbrev pub invariant-loop-shard : goal.invariant-loop-shard
invariant-loop-shard l = record {
  empty : map (λ x. x.items) l.lists.items ≡ map (λ (n : ℕ). []) (range_with_len 0 l._shard);
  count : length l.lists.items ≡ l._shard;
  room : l.shards ≤ vec_capacity l.lists;
}
