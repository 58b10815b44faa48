use Rattle.bng_failover.specs.Due.{IsEarliest}
use Rattle.bng_failover.proofs.due.earliest.Given as goal

abbrev pub invariant-loop-at : goal.invariant-loop-at
invariant-loop-at l = IsEarliest l.servers l.at l.best
