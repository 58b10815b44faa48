use Rattle.bng_desk.proofs.Begun.{BeginsThem}
use Rattle.bng_desk.proofs.starts.begin_all.Given as goal

abbrev pub invariant-loop-shard : goal.invariant-loop-shard
invariant-loop-shard l = BeginsThem l.moment l.wall l.initial.shards l.shards l.shard-index l.fn.accounts l.accounts
