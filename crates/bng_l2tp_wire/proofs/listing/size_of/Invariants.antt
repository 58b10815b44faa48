use Rattle.std.proofs.Common.{◌≡◌, ◌≤◌, ◌*◌, length, take}
use Rattle.bng_l2tp_wire.specs.Avps.{avps_text}
use Rattle.bng_l2tp_wire.specs.View.{avps_of}
use Rattle.bng_l2tp_wire.proofs.listing.size_of.Given as goal

abbrev pub invariant-loop-avp : goal.invariant-loop-avp
invariant-loop-avp l = record {
  size : l.size ≡ length (avps_text (avps_of (take l.avp-index l.avps)));
  small : l.size ≤ 1023 * l.avp-index;
}
