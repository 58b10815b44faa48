use Rattle.std.proofs.Common.{length}
use Rattle.bng_desk.proofs.Begun.{BeginsFew}
use Rattle.bng_desk.proofs.starts.begin.Given as goal

-- what was told so far
abbrev pub invariant-loop-term : goal.invariant-loop-term
invariant-loop-term l = BeginsFew l.moment l.wall l.fn.shard l.shard l.fn.accounts l.accounts

-- how many terms are still to be told
abbrev pub decreases-loop-term : goal.decreases-loop-term
decreases-loop-term l = length l.shard.state.slots.news
