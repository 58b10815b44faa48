use Rattle.std.proofs.Common.{take}
use Rattle.bng_desk.specs.Coa.{replies_in}
use Rattle.bng_desk.specs.Intake.{RepeatsAll}
use Rattle.bng_desk.proofs.replies.repeat_all.Given as goal

-- those so far were sent
abbrev pub invariant-loop-repeated : goal.invariant-loop-repeated
invariant-loop-repeated g l = let told = g.P.Plant.told in RepeatsAll (replies_in (take l.repeated-index l.repeats)) (told l.fn.plant) (told l.plant)
