-- The words of the Control role.
use Rattle.std.specs.Prelude.{◌≡◌, ℕ, ◌/◌, ◌==◌, Bool, not, ◌&&◌, ◌||◌, List, [], ◌∷◌, length, map, codes, count_by, if◌then◌else◌}
use Rattle.std.specs.List.{filter, list_any}
use Rattle.std.specs.Str.{bytes_eq}
use Rattle.bng_base.specs.declared.address.Peer.{Peer}
use Rattle.bng_base.specs.declared.outside.Datagram.{Datagram}
use Rattle.bng_base.specs.declared.outside.Role.TheVariants.{Control}
use Rattle.bng_base.specs.FateOf.{Arrival}
use Rattle.bng_base.specs.Told.{PlantTold}
use Rattle.bng_base.specs.Stretch.{PlantStretch, plant_joined, ExtendsPlant}
use Rattle.bng_engine.specs.Lists.{one_if}
use Rattle.bng_desk.specs.declared.reading.ReadEnd.{ReadEnd}
use Rattle.bng_desk.specs.declared.control.Heeding.{Heeding}
use Rattle.bng_desk.specs.Reading.{receives, taken_in, ending_stretch, EndsRight, is_empty, sending}

-- a datagram of Control, and whether the answer to it was sent
pub record Heeded : Type 0 where
  pub arrival : Arrival
  pub answered : Bool

-- from 127.0.0.0/8
abbrev pub is_near : Arrival → Bool
is_near a = a.from.ip.0 / 16777216 == 127

-- `stop`, with or without a line end, from 127.0.0.0/8
abbrev pub is_stop : Arrival → Bool
is_stop a = not a.cut && (is_near a && (bytes_eq a.octets (codes "stop") || bytes_eq a.octets (codes "stop\n")))

abbrev pub stops : Heeded → Bool
stops h = is_stop h.arrival

-- a stop was taken
abbrev pub has_stop : List Heeded → Bool
has_stop heeded = list_any stops heeded

abbrev pub is_answered : Heeded → Bool
is_answered h = is_near h.arrival && h.answered

abbrev pub is_unanswered : Heeded → Bool
is_unanswered h = is_near h.arrival && not h.answered

-- `stats`, with or without a line end, from 127.0.0.0/8
abbrev pub is_stats : Arrival → Bool
is_stats a = not a.cut && (is_near a && (bytes_eq a.octets (codes "stats") || bytes_eq a.octets (codes "stats\n")))

-- a stop is answered `stopping`, `stats` by what the desk counted, and all else `unknown`
abbrev pub reply_text : (stats : List ℕ) → Arrival → List ℕ
reply_text stats a = if is_stop a then codes "stopping\n" else (if is_stats a then stats else codes "unknown\n")

-- each datagram from 127.0.0.0/8 is answered, once
abbrev pub reply : (stats : List ℕ) → Heeded → Datagram
reply stats h = record { role = Control; peer = h.arrival.from; octets = reply_text stats h.arrival }

-- what these datagrams and the answers to them add to what the plant tells; each answer that was not sent had failed
abbrev pub heeding : (stats : List ℕ) → List Heeded → PlantStretch
heeding stats heeded = record {
  heard = receives Control (map (λ h. h.arrival) heeded);
  taken = taken_in Control (map (λ h. h.arrival) heeded);
  sent = map (reply stats) (filter is_answered heeded);
  failed = count_by is_unanswered heeded;
}

-- what the reading of Control adds
abbrev pub control_stretch : (stats : List ℕ) → List Heeded → ReadEnd → PlantStretch
control_stretch stats heeded ended = plant_joined (heeding stats heeded) (ending_stretch Control ended)

-- what the answer to one datagram adds
abbrev pub answering : (stats : List ℕ) → Heeded → PlantStretch
answering stats h = record { heard = []; taken = []; sent = if is_answered h then reply stats h ∷ [] else []; failed = one_if (is_unanswered h) }

-- a text was sent, or was not
pub record Tells (text : List ℕ) (to : Peer) (old new : PlantTold) : Type 0 where
  pub sent : Bool
  pub told : ExtendsPlant old new (sending Control to text sent)

-- a datagram of Control was answered, or is of another sender
pub record Answers (stats : List ℕ) (old new : PlantTold) (a : Arrival) (stop : Bool) : Type 0 where
  pub answered : Bool
  pub told : ExtendsPlant old new (answering stats (record { arrival = a; answered = answered }))
  pub is : stop ≡ is_stop a

-- the reading of Control, with what the turn keeps of it
pub record Heeds (stats : List ℕ) (old new : PlantTold) (result : Heeding) : Type 0 where
  pub heeded : List Heeded
  pub told : ExtendsPlant old new (control_stretch stats heeded result.ended)
  pub ends : EndsRight 8 (length heeded) result.ended
  pub stop : result.stop ≡ has_stop heeded
  pub idle : result.idle ≡ is_empty heeded
