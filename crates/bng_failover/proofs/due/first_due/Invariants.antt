use Rattle.bng_failover.specs.Due.{NoneDueBelow}
use Rattle.bng_failover.proofs.due.first_due.Given as goal

abbrev pub invariant-loop-at : goal.invariant-loop-at
invariant-loop-at l = NoneDueBelow l.lane l.servers l.tries l.now l.at
