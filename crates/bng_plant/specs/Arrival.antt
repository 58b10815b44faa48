-- What a script gives.
use Rattle.std.specs.Prelude.{◌≡◌, ℕ, ◌≤◌, Bool, true, false}
use Rattle.bng_base.specs.Packet.{Packet}
use Rattle.bng_base.specs.declared.outside.Role.{Role}
use Rattle.bng_base.specs.declared.outside.Datagram.{Datagram}
use Rattle.bng_base.specs.declared.outside.Received.{Received}
use Rattle.bng_base.specs.declared.outside.Received.TheVariants.{Got, Empty, Failed}
use Rattle.bng_plant.specs.declared.arrival.Arrival.{Arrival}

-- what is told of an arrival that was given
abbrev pub datagram_of : Arrival → Datagram
datagram_of a = record { role = a.role; peer = a.from; octets = a.octets }

-- a datagram was taken
abbrev pub is_got : Received → Bool
is_got (Got from cut) = true
is_got Empty = false
is_got Failed = false

-- a receive of this role takes the arrival, after so many waits
pub record IsFor (role : Role) (waited : ℕ) (a : Arrival) : Type 0 where
  pub same : a.role ≡ role
  pub came : a.waits ≤ waited

-- it was given: sender, whether it is cut, and its octets with the whole headroom
pub record IsGiven (role : Role) (waited : ℕ) (answer : Received) (into : Packet) (a : Arrival) : Type 0 where
  pub turn : IsFor role waited a
  pub says : answer ≡ Got a.from a.cut
  pub fills : into ≡ record { payload = a.octets; headroom = 64 }
