use Rattle.std.proofs.Common.{◌≡◌, length}
use Rattle.std.specs.List.{list_any}
use Rattle.bng_l2tp_wire.specs.View.{avps_of}
use Rattle.bng_l2tp_wire.specs.Values.{is_of}
use Rattle.bng_l2tp_wire.proofs.placed.has.Given as goal

abbrev pub invariant-loop-left : goal.invariant-loop-left
invariant-loop-left l = list_any (is_of l.kind) (avps_of l.avps) ≡ list_any (is_of l.kind) (avps_of l.left)

abbrev pub decreases-loop-left : goal.decreases-loop-left
decreases-loop-left l = length l.left
