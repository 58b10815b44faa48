use Rattle.std.proofs.Common.{◌≡◌, ◌*◌, ◌^◌, ◌≤◌, length, take}
use Rattle.bng_desk.specs.Model.{traffic_under}
use Rattle.bng_desk.proofs.sums.sent_under.Given as goal

-- what the books of the shards so far say
abbrev pub invariant-loop-shard : goal.invariant-loop-shard
invariant-loop-shard l = record {
  input : l.input ≡ (traffic_under (take l.shard-index l.shards) l.place).input;
  output : l.output ≡ (traffic_under (take l.shard-index l.shards) l.place).output;
  low_input : l.input ≤ 2 ^ 64 * l.shard-index;
  low_output : l.output ≤ 2 ^ 64 * l.shard-index;
  few : length l.shards ≤ 64;
}
