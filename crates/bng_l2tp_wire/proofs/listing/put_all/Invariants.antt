use Rattle.std.proofs.Common.{◌≡◌, ◌++◌, take}
use Rattle.bng_l2tp_wire.specs.Avps.{avps_text}
use Rattle.bng_l2tp_wire.specs.View.{avps_of}
use Rattle.bng_l2tp_wire.proofs.listing.put_all.Given as goal

abbrev pub invariant-loop-avp : goal.invariant-loop-avp
invariant-loop-avp l = record {
  payload : l.into.payload ≡ l.initial.into.payload ++ avps_text (avps_of (take l.avp-index l.avps));
  headroom : l.into.headroom ≡ 64;
}
