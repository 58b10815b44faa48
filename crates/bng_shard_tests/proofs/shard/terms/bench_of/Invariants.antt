use Rattle.std.proofs.Common.{◌≡◌, length}
use Rattle.bng_shard_tests.proofs.shard.terms.bench_of.Given as goal

-- the table has the one range
abbrev pub invariant-loop : goal.invariant-loop
invariant-loop g l = record { one : length l.pool.ranges ≡ 1; two : l.pool.shards ≡ 2 }
