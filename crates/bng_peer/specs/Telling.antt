-- What the peers tell.
use Rattle.std.specs.Prelude.{None}
use Rattle.bng_base.specs.Told.{ClockTold, PlantTold}
use Rattle.bng_peer.specs.declared.clock.PeerClock.{PeerClock}
use Rattle.bng_peer.specs.declared.plant.PeerPlant.{PeerPlant}

-- the clock: no answers, but the last moment
abbrev pub clock_told : PeerClock → ClockTold
clock_told c = record { answers = None; last = c.last }

-- the plant: nothing, and no call fails
abbrev pub tells_nothing : PeerPlant → PlantTold
tells_nothing p = record { bound = None; heard = None; taken = None; sent = None; faults = 0 }
