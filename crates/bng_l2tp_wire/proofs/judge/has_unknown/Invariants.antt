use Rattle.std.proofs.Common.{◌≡◌, length}
use Rattle.bng_l2tp_wire.specs.View.{avps_of}
use Rattle.bng_l2tp_wire.specs.Judge.{has_unknown}
use Rattle.bng_l2tp_wire.proofs.judge.has_unknown.Given as goal

abbrev pub invariant-loop-left : goal.invariant-loop-left
invariant-loop-left l = has_unknown (avps_of l.avps) ≡ has_unknown (avps_of l.left)

abbrev pub decreases-loop-left : goal.decreases-loop-left
decreases-loop-left l = length l.left
