use Rattle.bng_billing.specs.Due.{due_count}
use Rattle.bng_desk.proofs.RecordLaws.{ResentSome}
use Rattle.bng_desk.proofs.records.resend_all.Given as goal

-- what was sent again so far
abbrev pub invariant-loop-id : goal.invariant-loop-id
invariant-loop-id g l = let told = g.P.Plant.told in ResentSome l.now (told l.fn.plant) (told l.plant) l.fn.billing l.billing

-- how many are still due
abbrev pub decreases-loop-id : goal.decreases-loop-id
decreases-loop-id g l = due_count l.billing l.now
