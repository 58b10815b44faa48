use Rattle.std.proofs.Common.{length}
use Rattle.bng_steps.specs.Protocol.{ended_terms}
use Rattle.bng_desk.proofs.Reaping.{ReapsFew}
use Rattle.bng_desk.proofs.stops.reap_ended.Given as goal

-- what left so far
abbrev pub invariant-loop-ended : goal.invariant-loop-ended
invariant-loop-ended l = ReapsFew l.moment l.wall l.fn.shard l.shard l.fn.pool l.pool l.fn.accounts l.accounts

-- how many terms have still to leave
abbrev pub decreases-loop-ended : goal.decreases-loop-ended
decreases-loop-ended l = length (ended_terms l.shard.state)
