-- Which requests are admitted (RFC 5176 sections 2.3, 3.4, 6.1 and 6.3).
use Rattle.std.specs.Prelude.{◌≡◌, ◌==◌, ℕ, ◌+◌, ◌-◌, ◌%◌, ◌^◌, ◌≤◌, min, Bool, ◌||◌, ◌&&◌, nat_lt, List, length, take, Option, Some, None, IsTrue, IsFalse}
use Rattle.std.specs.List.{list_any}
use Rattle.byteorder.specs.Endian.{big_from}
use Rattle.bng_base.specs.declared.address.Ip4.{Ip4}
use Rattle.bng_base.specs.declared.address.Peer.{Peer}
use Rattle.bng_radius_wire.specs.Attributes.{Field}
use Rattle.bng_radius_wire.specs.Grammar.{Packet, IsRadius, length_in}
use Rattle.bng_radius_wire.specs.Digests.{zeros, IsSigned}
use Rattle.bng_coa.specs.declared.request.RequestKey.{RequestKey}
use Rattle.bng_coa.specs.declared.request.ChangeRequest.{ChangeRequest}
use Rattle.bng_coa.specs.declared.request.RequestStage.TheVariants.{InHand, Answered}
use Rattle.bng_coa.specs.declared.rules.Admitted.{Admitted}
use Rattle.bng_coa.specs.declared.rules.Admitted.TheVariants.{New, Repeat, InHand as StillInHand, Ignored}
use Rattle.bng_coa.specs.declared.rules.IgnoredRequest.{IgnoredRequest as Cause}
use Rattle.bng_coa.specs.declared.rules.IgnoredRequest.TheVariants.{Stranger, Malformed, WrongDigest, Stale}
use Rattle.bng_coa.specs.Requests.{key_of, standing}
use Rattle.bng_coa.specs.Runs.{IsTakenIn}
use Rattle.bng_coa.specs.State.{State}

abbrev pub is_peer : Ip4 → List Ip4 → Bool
is_peer ip peers = list_any (λ peer. peer.0 == ip.0) peers

-- a Disconnect-Request or a CoA-Request
abbrev pub is_request : ℕ → Bool
is_request code = (code == 40) || (code == 43)

-- the octets begin with a request of at most 64 attributes
pub record IsRequestIn (p : Packet) (bytes : List ℕ) : Type 0 where
  pub packet : IsRadius p bytes
  pub few : length p.attributes ≤ 64
  pub code : IsTrue (is_request p.code)

-- how many seconds lie between two counts of seconds modulo 2^32, the shorter way round
abbrev pub seconds_between : ℕ → ℕ → ℕ
seconds_between a b = min ((a + 2 ^ 32 - b) % 2 ^ 32) ((b + 2 ^ 32 - a) % 2 ^ 32)

-- an Event-Timestamp of four octets that is more than 300 s from this second
abbrev pub is_stale : ℕ → Field → Bool
is_stale wall f = (f.kind == 55) && ((length f.value == 4) && nat_lt 300 (seconds_between (big_from 0 4 f.value) (wall % 2 ^ 32)))

-- a request that is signed, and whose Event-Timestamp, where it has one, is near
pub record IsAdmissible (p : Packet) (secret bytes : List ℕ) (wall : ℕ) : Type 0 where
  pub request : IsRequestIn p bytes
  pub signed : IsSigned p zeros secret
  pub current : IsFalse (list_any (is_stale wall) p.attributes)

-- why the octets of a peer are passed over, the first cause
abbrev pub WhyIgnored : (secret bytes : List ℕ) → (wall : ℕ) → Cause → Type 0
WhyIgnored secret bytes wall Stranger = ⊥
WhyIgnored secret bytes wall Malformed = (p : Packet) → ¬ (IsRequestIn p bytes)
WhyIgnored secret bytes wall WrongDigest = (p : Packet) × IsRequestIn p bytes × (¬ (IsSigned p zeros secret))
WhyIgnored secret bytes wall Stale = (p : Packet) × IsRequestIn p bytes × IsSigned p zeros secret × IsTrue (list_any (is_stale wall) p.attributes)

-- what a request is to the equal one that stands, if there is one
abbrev pub Stands : Option ChangeRequest → Admitted → Type 0
Stands (Some r) (Repeat frame) = r.stage ≡ Answered frame.payload
Stands (Some r) StillInHand = (number : ℕ) × (packet : List ℕ) × (r.stage ≡ InHand number packet)
Stands (Some r) (New number) = ⊥
Stands (Some r) (Ignored cause) = ⊥
Stands None (Repeat frame) = ⊥
Stands None StillInHand = ⊥
Stands None (New number) = Unit {0}
Stands None (Ignored cause) = ⊥

-- an admissible request, and what it is to the equal one that stands
abbrev pub Takes : State → Peer → (bytes : List ℕ) → (now wall : ℕ) → Admitted → Type 0
Takes s from bytes now wall answer = (p : Packet) × IsAdmissible p s.secret bytes wall × Stands (standing now (key_of from p) s.requests) answer

-- what a datagram of this sender is, the first cause for which it is passed over
abbrev pub Admits : State → Peer → (bytes : List ℕ) → (now wall : ℕ) → Admitted → Type 0
Admits s from bytes now wall (Ignored Stranger) = IsFalse (is_peer from.ip s.peers)
Admits s from bytes now wall (Ignored cause) = IsTrue (is_peer from.ip s.peers) × WhyIgnored s.secret bytes wall cause
Admits s from bytes now wall (Repeat frame) = IsTrue (is_peer from.ip s.peers) × Takes s from bytes now wall (Repeat frame)
Admits s from bytes now wall StillInHand = IsTrue (is_peer from.ip s.peers) × Takes s from bytes now wall StillInHand
Admits s from bytes now wall (New number) = IsTrue (is_peer from.ip s.peers) × Takes s from bytes now wall (New number)

-- only a new request changes what is in hand and kept
abbrev pub TakesIn : (old new : List ChangeRequest) → RequestKey → (bytes : List ℕ) → ℕ → Admitted → Type 0
TakesIn old new key bytes now (New number) = IsTakenIn old new key (take (length_in bytes) bytes) now number
TakesIn old new key bytes now (Repeat frame) = new ≡ old
TakesIn old new key bytes now StillInHand = new ≡ old
TakesIn old new key bytes now (Ignored cause) = new ≡ old

-- the request at the front of the octets is in hand from now on, and all else is as before
pub record IsNew (old new : State) (from : Peer) (bytes : List ℕ) (now number : ℕ) : Type 0 where
  pub packet : Packet
  pub reads : IsRequestIn packet bytes
  pub taken : IsTakenIn old.requests new.requests (key_of from packet) (take (length_in bytes) bytes) now number
  pub peers : new.peers ≡ old.peers
  pub secret : new.secret ≡ old.secret

-- what is in hand and kept after a datagram
abbrev pub Keeps : (old new : State) → Peer → (bytes : List ℕ) → ℕ → Admitted → Type 0
Keeps old new from bytes now (New number) = IsNew old new from bytes now number
Keeps old new from bytes now (Repeat frame) = new ≡ old
Keeps old new from bytes now StillInHand = new ≡ old
Keeps old new from bytes now (Ignored cause) = new ≡ old

abbrev pub WhenNew : Admitted → (ℕ → Type 0) → Type 0
WhenNew (New number) P = P number
WhenNew (Repeat frame) P = Unit {0}
WhenNew StillInHand P = Unit {0}
WhenNew (Ignored cause) P = Unit {0}

-- how many more requests are in hand
abbrev pub more_in_hand : Admitted → ℕ
more_in_hand (New number) = 1
more_in_hand (Repeat frame) = 0
more_in_hand StillInHand = 0
more_in_hand (Ignored cause) = 0
