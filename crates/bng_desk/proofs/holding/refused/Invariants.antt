use Rattle.std.proofs.Common.{◌≡◌, ◌≤◌, [], replicate, length, vec_capacity}
use Rattle.bng_desk.proofs.holding.refused.Given as goal

-- an empty journal for each shard so far
abbrev pub invariant-loop-shard : goal.invariant-loop-shard
invariant-loop-shard l = record {
  empty : l.journals.items ≡ replicate l._shard [];
  count : length l.journals.items ≡ l._shard;
  room : l.fn.shards ≤ vec_capacity l.journals;
}
