-- The reading of a role: what was taken, and how it ended.
use Rattle.std.specs.Prelude.{◌≡◌, ◌<◌, ℕ, Bool, true, false, not, List, [], ◌∷◌, map, if◌then◌else◌}
use Rattle.bng_base.specs.declared.outside.Role.{Role}
use Rattle.bng_base.specs.declared.outside.Datagram.{Datagram}
use Rattle.bng_base.specs.declared.outside.Heard.{Heard}
use Rattle.bng_base.specs.declared.outside.Heard.TheVariants.{Receive}
use Rattle.bng_base.specs.declared.address.Peer.{Peer}
use Rattle.bng_base.specs.declared.outside.Received.{Received}
use Rattle.bng_base.specs.declared.outside.Received.TheVariants.{Got, Empty, Failed}
use Rattle.bng_base.specs.Told.{taken_by}
use Rattle.bng_base.specs.FateOf.{Arrival}
use Rattle.bng_base.specs.Stretch.{PlantStretch}
use Rattle.bng_engine.specs.Lists.{one_if}
use Rattle.bng_desk.specs.declared.reading.ReadEnd.{ReadEnd}
use Rattle.bng_desk.specs.declared.reading.ReadEnd.TheVariants.{Full, Dry, Broken}

-- the receives that took these
abbrev pub receives : Role → List Arrival → List Heard
receives role arrivals = map (λ a. Receive role (Got a.from a.cut)) arrivals

-- the receive that ended a reading, if one did
abbrev pub last_receive : Role → ReadEnd → List Heard
last_receive role Full = []
last_receive role Dry = Receive role Empty ∷ []
last_receive role Broken = Receive role Failed ∷ []

-- the datagrams that these are
abbrev pub taken_in : Role → List Arrival → List Datagram
taken_in role arrivals = map (λ a. record { role = role; peer = a.from; octets = a.octets }) arrivals

-- a role is read until Empty, Failed or its number
abbrev pub EndsRight : ℕ → ℕ → ReadEnd → Type 0
EndsRight most taken Full = taken ≡ most
EndsRight most taken Dry = taken < most
EndsRight most taken Broken = taken < most

abbrev pub is_broken : ReadEnd → Bool
is_broken Full = false
is_broken Dry = false
is_broken Broken = true

-- what the end of a reading adds to what the plant tells
abbrev pub ending_stretch : Role → ReadEnd → PlantStretch
ending_stretch role ended = record { heard = last_receive role ended; taken = []; sent = []; failed = one_if (is_broken ended) }

abbrev pub is_empty : {X : Type 0} → List X → Bool
is_empty [] = true
is_empty (x ∷ xs) = false

-- what a receive adds
abbrev pub is_failed : Received → Bool
is_failed (Got from cut) = false
is_failed Empty = false
is_failed Failed = true

abbrev pub receiving : Role → Received → List ℕ → PlantStretch
receiving role answer octets = record { heard = Receive role answer ∷ []; taken = taken_by role answer octets; sent = []; failed = one_if (is_failed answer) }

-- what a send adds, by whether it was sent
abbrev pub sending : Role → Peer → List ℕ → Bool → PlantStretch
sending role to octets sent = record { heard = []; taken = []; sent = if sent then record { role = role; peer = to; octets = octets } ∷ [] else []; failed = one_if (not sent) }
