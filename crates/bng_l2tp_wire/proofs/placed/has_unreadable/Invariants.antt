use Rattle.std.proofs.Common.{◌≡◌, length}
use Rattle.std.specs.List.{list_any}
use Rattle.std.specs.Option.{option_map}
use Rattle.bng_l2tp_wire.specs.View.{avp_of, avps_of}
use Rattle.bng_l2tp_wire.specs.Values.{is_unreadable, placed_after, placed}
use Rattle.bng_l2tp_wire.specs.View.{octets_of}
use Rattle.bng_l2tp_wire.proofs.placed.has_unreadable.Given as goal

abbrev pub invariant-loop-left : goal.invariant-loop-left
invariant-loop-left l =
    list_any (is_unreadable (octets_of l.secret)) (placed (avps_of l.avps)) ≡ list_any (is_unreadable (octets_of l.secret)) (placed_after (option_map avp_of l.vector) (avps_of l.left))

abbrev pub decreases-loop-left : goal.decreases-loop-left
decreases-loop-left l = length l.left
