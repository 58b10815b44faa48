use Rattle.std.proofs.Common.{◌≤◌, length}
use Rattle.bng_l2tp_wire.specs.Avps.{AvpFits, avp_text}
use Rattle.bng_l2tp_wire.specs.View.{avps_of}
use Rattle.bng_base.proofs.PieceLaws.{Reads}
use Rattle.bng_l2tp_wire.proofs.listing.list_of.Given as goal

abbrev pub invariant-loop-avp : goal.invariant-loop-avp
invariant-loop-avp l = record {
  reads : Reads AvpFits avp_text 64 l.octets l.rest (avps_of l.found.items) l.many;
  few : length l.found.items ≤ 64;
}

abbrev pub decreases-loop-avp : goal.decreases-loop-avp
decreases-loop-avp l = length l.rest
