use Rattle.bng_acct.proofs.Forgetting.{Forgets}
use Rattle.bng_acct.proofs.spool.Spool.stops_only.Given as goal

abbrev pub invariant-loop-number : goal.invariant-loop-number
invariant-loop-number l = Forgets l.initial.self l.self l.number
