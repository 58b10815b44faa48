use Rattle.std.proofs.Common.{take}
use Rattle.bng_desk.specs.Intake.{GivesLoose}
use Rattle.bng_desk.proofs.replies.answer_loose.Given as goal

-- those so far were answered
abbrev pub invariant-loop-one : goal.invariant-loop-one
invariant-loop-one g l = let told = g.P.Plant.told in GivesLoose l.rules (take l.one-index l.loose) (told l.fn.plant) (told l.plant) l.fn.coa l.coa
