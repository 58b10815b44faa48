use Rattle.std.proofs.Common.{◌≡◌, ◌≤◌, length, min}
use Rattle.bng_l2tp_reliable.specs.Timers.{never}
use Rattle.bng_lns.specs.Places.{earliest}
use Rattle.bng_lns.proofs.places.earliest.Given as goal

abbrev pub invariant-loop-left : goal.invariant-loop-left
invariant-loop-left l = (l.first ≤ never) × (min l.first (earliest l.left) ≡ earliest l.places)

abbrev pub decreases-loop-left : goal.decreases-loop-left
decreases-loop-left l = length l.left
