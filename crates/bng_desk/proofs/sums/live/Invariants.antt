use Rattle.std.proofs.Common.{◌≡◌, take}
use Rattle.bng_desk.specs.Model.{live_of}
use Rattle.bng_desk.proofs.sums.live.Given as goal

-- what the shards so far say
abbrev pub invariant-loop-shard : goal.invariant-loop-shard
invariant-loop-shard l = l.sum ≡ live_of (take l.shard-index l.shards)
