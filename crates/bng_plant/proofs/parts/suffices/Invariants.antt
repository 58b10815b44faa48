use Rattle.std.proofs.Common.{◌≡◌, ◌+◌, length, take, sum_by}
use Rattle.bng_plant.proofs.parts.suffices.Given as goal

abbrev pub invariant-loop-part : goal.invariant-loop-part
invariant-loop-part g l = l.left + sum_by length (take l.part-index l.parts) ≡ l.room
