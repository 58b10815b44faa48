use Rattle.std.proofs.Common.{◌≡◌, ◌*◌, ◌^◌, ◌≤◌, length, take}
use Rattle.bng_desk.specs.Model.{sessions_in}
use Rattle.bng_desk.proofs.sums.sessions_in.Given as goal

-- the sessions of the shards so far
abbrev pub invariant-loop-shard : goal.invariant-loop-shard
invariant-loop-shard l = record {
  sum : l.sessions ≡ sessions_in (take l.shard-index l.shards);
  few : l.sessions ≤ 2 ^ 32 * l.shard-index;
  shards : length l.shards ≤ 64;
}
