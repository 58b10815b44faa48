-- The requests that are in hand or whose reply is kept, in the order in which they were admitted (RFC 5176 section 2.3).
use Rattle.std.specs.Prelude.{◌==◌, ℕ, ◌-◌, ◌≤◌, Bool, true, false, ◌&&◌, nat_lt, if◌then◌else◌, List, ◌++◌, ◌∷◌, [], length, Option, Some, None, filter, find, position, remove}
use Rattle.std.specs.List.{AllByRecursion}
use Rattle.std.specs.Str.{bytes_eq}
use Rattle.bng_base.specs.declared.address.Peer.{Peer}
use Rattle.bng_radius_wire.specs.Grammar.{Packet, IsRadius}
use Rattle.bng_radius_wire.specs.Digests.{HasRoom}
use Rattle.bng_coa.specs.declared.request.RequestKey.{RequestKey}
use Rattle.bng_coa.specs.declared.request.ChangeRequest.{ChangeRequest}
use Rattle.bng_coa.specs.declared.request.RequestStage.{RequestStage}
use Rattle.bng_coa.specs.declared.request.RequestStage.TheVariants.{InHand, Answered}

-- a request of a packet of this sender
abbrev pub key_of : Peer → Packet → RequestKey
key_of from p = record { from = from; code = p.code; id = p.id; authenticator = p.authenticator }

-- the same sender, code, identifier and authenticator
abbrev pub is_same : RequestKey → RequestKey → Bool
is_same a b = (a.from.ip.0 == b.from.ip.0) && (a.from.port == b.from.port) && (a.code == b.code) && (a.id == b.id) && bytes_eq a.authenticator b.authenticator

abbrev pub is_in_hand_at : RequestStage → Bool
is_in_hand_at (InHand number packet) = true
is_in_hand_at (Answered reply) = false

abbrev pub is_in_hand : ChangeRequest → Bool
is_in_hand r = is_in_hand_at r.stage

abbrev pub is_answered_at : RequestStage → Bool
is_answered_at (InHand number packet) = false
is_answered_at (Answered reply) = true

-- its reply is kept
abbrev pub is_answered : ChangeRequest → Bool
is_answered r = is_answered_at r.stage

abbrev pub is_numbered_at : ℕ → RequestStage → Bool
is_numbered_at number (InHand n packet) = n == number
is_numbered_at number (Answered reply) = false

-- it is in hand under this number
abbrev pub is_numbered : ℕ → ChangeRequest → Bool
is_numbered number r = is_numbered_at number r.stage

abbrev pub is_held_at : (passed : ℕ) → RequestStage → Bool
is_held_at passed (InHand number packet) = true
is_held_at passed (Answered reply) = nat_lt passed 30000

-- it is in hand, or its reply is kept: fewer than 30,000 ms have passed since it was admitted
abbrev pub is_held : ℕ → ChangeRequest → Bool
is_held now r = is_held_at (now - r.admitted_at) r.stage

abbrev pub is_standing : ℕ → RequestKey → ChangeRequest → Bool
is_standing now key r = is_held now r && is_same r.key key

-- the equal request that is in hand or has a kept reply at this moment
abbrev pub standing : ℕ → RequestKey → List ChangeRequest → Option ChangeRequest
standing now key requests = find (is_standing now key) requests

abbrev pub without : Option ℕ → List ChangeRequest → List ChangeRequest
without None requests = requests
without (Some place) requests = remove requests place

-- where 256 stand, the reply that was kept first is forgotten
abbrev pub with_room : List ChangeRequest → List ChangeRequest
with_room requests = if nat_lt (length requests) 256 then requests else without (position is_answered requests) requests

-- after one more request was admitted at this moment
abbrev pub admitted : ℕ → ChangeRequest → List ChangeRequest → List ChangeRequest
admitted now request requests = with_room (filter (is_held now) requests) ++ request ∷ []

-- the octets hold a packet that can be answered
pub record IsAnswerable (p : Packet) (octets : List ℕ) : Type 0 where
  pub packet : IsRadius p octets
  pub few : length p.attributes ≤ 64
  pub sized : AllByRecursion HasRoom p.attributes
  pub size : length octets ≤ 4096

abbrev pub IsSoundAt : RequestStage → Type 0
IsSoundAt (InHand number packet) = (p : Packet) × IsAnswerable p packet
IsSoundAt (Answered reply) = length reply ≤ 4096

abbrev pub IsSound : ChangeRequest → Type 0
IsSound r = IsSoundAt r.stage
