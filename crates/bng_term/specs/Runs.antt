-- What becomes of a term over a list of events, and the Interims that are taken over a list of moments.
use Rattle.std.specs.Prelude.{ℕ, ◌<◌, ◌≤◌, Bool, false, nat_le, if◌then◌else◌, List, [], ◌∷◌, Option, All, is_some}
use Rattle.std.specs.Option.{option_map_or}
use Rattle.bng_term.specs.declared.limits.Limits.{Limits}
use Rattle.bng_term.specs.Lifetimes.{Life, leased, cause_of, seen, seconds_after, changed, interim_of, reported}

-- a packet of data passes at a moment, the term is looked at, an Interim is taken, or the limits change
pub data Event : Type 0 where
  Packet : (moment : ℕ) → Event
  Look : (moment : ℕ) → Event
  Report : (moment : ℕ) → Event
  Change : (limits : Limits) → Event

-- the moments at which packets passed
abbrev pub packets : List Event → List ℕ
packets [] = []
packets (Packet m ∷ events) = m ∷ packets events
packets (Look m ∷ events) = packets events
packets (Report m ∷ events) = packets events
packets (Change limits ∷ events) = packets events

-- the limits after these events
abbrev pub limits_in : Limits → List Event → Limits
limits_in limits [] = limits
limits_in limits (Packet m ∷ events) = limits_in limits events
limits_in limits (Look m ∷ events) = limits_in limits events
limits_in limits (Report m ∷ events) = limits_in limits events
limits_in limits (Change other ∷ events) = limits_in other events

-- the last of these moments, or the first one where there is none
abbrev pub last_of : ℕ → List ℕ → ℕ
last_of first [] = first
last_of first (m ∷ ms) = last_of m ms

-- what a term is after a look, where the last packet passed at that moment
abbrev pub looked : Life → ℕ → ℕ → Life
looked t passed now = if is_some (cause_of t.limits t.began passed now) then t else seen t passed

-- a term after a list of events, where the last packet before it, or the lease, was at that moment: a packet changes nothing
-- of it
abbrev pub after : Life → ℕ → List Event → Life
after t passed [] = t
after t passed (Packet m ∷ events) = after t m events
after t passed (Look m ∷ events) = after (looked t passed m) passed events
after t passed (Report m ∷ events) = after (reported t m) passed events
after t passed (Change limits ∷ events) = after (changed t limits) passed events

-- the cause that a look at this moment answers after these events since the lease
abbrev pub cause_after : Limits → ℕ → List Event → ℕ → Option ℕ
cause_after limits lease events now =
    let t = after (leased limits lease) lease events in cause_of t.limits t.began (last_of lease (packets events)) now

-- the moments never fall, from this one on up to that one
abbrev pub Rises : ℕ → List Event → ℕ → Type 0
Rises floor [] now = floor ≤ now
Rises floor (Packet m ∷ events) now = (floor ≤ m) × Rises m events now
Rises floor (Look m ∷ events) now = (floor ≤ m) × Rises m events now
Rises floor (Report m ∷ events) now = (floor ≤ m) × Rises m events now
Rises floor (Change limits ∷ events) now = Rises floor events now

-- An Idle-Timeout is set, and neither the lease nor any packet is within its last seconds.
pub record IsIdle (limits : Limits) (lease : ℕ) (events : List Event) (now : ℕ) : Type 0 where
  pub set : 0 < (limits_in limits events).idle_timeout
  pub silent : All (λ m. seconds_after (limits_in limits events).idle_timeout m ≤ now) (lease ∷ packets events)

-- A Session-Timeout is set, and its seconds have passed since the lease.
pub record IsAged (limits : Limits) (lease : ℕ) (events : List Event) (now : ℕ) : Type 0 where
  pub set : 0 < (limits_in limits events).session_timeout
  pub passed : seconds_after (limits_in limits events).session_timeout lease ≤ now

-- an Interim is due
abbrev pub is_due : Life → ℕ → Bool
is_due t now = option_map_or (λ at. nat_le at now) (interim_of t) false

-- At each of these moments one asks whether an Interim is due, and takes it where it is: the moments of those taken.
abbrev pub reports : Life → List ℕ → List ℕ
reports t [] = []
reports t (m ∷ ms) = if is_due t m then m ∷ reports (reported t m) ms else reports t ms
