-- A datagram as it was taken, without where it lies in memory.
use Rattle.bng_base.specs.FateOf.{Arrival}
use Rattle.bng_forward.specs.declared.arrived.Arrived.{Arrived}

abbrev pub as_arrival : Arrived → Arrival
as_arrival a = record { from = a.from; cut = a.cut; octets = a.octets.now }
