use Rattle.std.proofs.Common.{length}
use Rattle.bng_desk.proofs.RecordLaws.{GivenSome}
use Rattle.bng_desk.proofs.records.give_all.Given as goal

-- what was given out so far
abbrev pub invariant-loop-number : goal.invariant-loop-number
invariant-loop-number g l = let told = g.P.Plant.told in GivenSome l.now (told l.fn.plant) (told l.plant) l.fn.billing l.billing

-- how many records still wait
abbrev pub decreases-loop-number : goal.decreases-loop-number
decreases-loop-number g l = length l.billing.spool.waiting
