use Rattle.std.proofs.Common.{◌≡◌, ◌*◌, ◌^◌, ◌≤◌, length, take}
use Rattle.bng_desk.specs.Model.{begun_in}
use Rattle.bng_desk.proofs.sums.begun_in.Given as goal

-- the terms that began in the shards so far
abbrev pub invariant-loop-shard : goal.invariant-loop-shard
invariant-loop-shard l = record {
  sum : l.begun ≡ begun_in (take l.shard-index l.shards);
  few : l.begun ≤ 2 ^ 48 * l.shard-index;
  shards : length l.shards ≤ 64;
}
