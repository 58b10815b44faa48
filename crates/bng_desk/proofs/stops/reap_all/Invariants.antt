use Rattle.bng_desk.proofs.Reaping.{ReapsSome}
use Rattle.bng_desk.proofs.stops.reap_all.Given as goal

abbrev pub invariant-loop-shard : goal.invariant-loop-shard
invariant-loop-shard l = ReapsSome l.moment l.wall l.initial.shards l.shards l.shard-index l.fn.pool l.pool l.fn.accounts l.accounts
