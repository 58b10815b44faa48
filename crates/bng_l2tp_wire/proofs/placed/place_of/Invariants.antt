use Rattle.std.proofs.Common.{◌≡◌, find, length}
use Rattle.std.specs.Option.{option_map}
use Rattle.bng_l2tp_wire.specs.View.{avp_of, avps_of}
use Rattle.bng_l2tp_wire.specs.Values.{PlacedAvp, is_of, placed_after, placed}
use Rattle.bng_l2tp_wire.proofs.placed.place_of.Given as goal

abbrev pub invariant-loop-left : goal.invariant-loop-left
invariant-loop-left l =
    find (λ (p : PlacedAvp). is_of l.kind p.avp) (placed (avps_of l.avps)) ≡ find (λ (p : PlacedAvp). is_of l.kind p.avp) (placed_after (option_map avp_of l.vector) (avps_of l.left))

abbrev pub decreases-loop-left : goal.decreases-loop-left
decreases-loop-left l = length l.left
