-- Which datagram answers which request (RFC 2865 sections 2 and 3, RFC 2866 section 2).
use Rattle.std.specs.Prelude.{◌≡◌, ◌==◌, ℕ, ◌≤◌, Bool, ◌||◌, IsTrue, List, Option, Some, None, length, slice_range}
use Rattle.bng_radius_wire.specs.Grammar.{Packet, IsRadius}
use Rattle.bng_radius_wire.specs.Digests.{IsSigned}
use Rattle.bng_radius_wire.specs.declared.codes.TheConstants.{ACCESS_ACCEPT, ACCESS_REJECT, ACCESS_CHALLENGE, ACCOUNTING_RESPONSE}
use Rattle.bng_rad_client.specs.declared.pending.Pending.{Pending}
use Rattle.bng_rad_client.specs.declared.rules.Lane.{Lane}
use Rattle.bng_rad_client.specs.declared.rules.Lane.TheVariants.{Auth, Acct}
use Rattle.bng_rad_client.specs.declared.replies.Replied.{Replied}
use Rattle.bng_rad_client.specs.declared.replies.Replied.TheVariants.{Matched, Ignored}
use Rattle.bng_rad_client.specs.declared.replies.IgnoredReply.TheVariants.{Stranger, Malformed, NotPending, WrongDigest}
use Rattle.bng_base.specs.declared.address.Peer.{Peer}
use Rattle.bng_rad_client.specs.Table.{request_of}

-- the codes that answer requests of a lane
abbrev pub takes : Lane → ℕ → Bool
takes Auth code = (code == ACCESS_ACCEPT) || (code == ACCESS_REJECT) || (code == ACCESS_CHALLENGE)
takes Acct code = code == ACCOUNTING_RESPONSE

-- a packet of at most 64 attributes that answers requests of the lane
pub record IsReplyOf (lane : Lane) (p : Packet) (bytes : List ℕ) : Type 0 where
  pub packet : IsRadius p bytes
  pub few : length p.attributes ≤ 64
  pub code : IsTrue (takes lane p.code)

abbrev pub authenticator_of : Pending → List ℕ
authenticator_of r = slice_range r.octets 4 20

-- the packet has the identifier of this request
pub record IsReplyTo (lane : Lane) (places : List (Option Pending)) (r : Pending) (p : Packet) (bytes : List ℕ) : Type 0 where
  pub reply : IsReplyOf lane p bytes
  pub pending : request_of places p.id ≡ Some r

-- what a datagram of this sender is, the first cause for which it is passed over
abbrev pub Answers : (server sender : Peer) (lane : Lane) (places : List (Option Pending)) (secret bytes : List ℕ) → Replied → Type 0
Answers server sender lane places secret bytes (Ignored Stranger) = ¬ (sender ≡ server)
Answers server sender lane places secret bytes (Ignored Malformed) = (sender ≡ server) × ((p : Packet) → ¬ (IsReplyOf lane p bytes))
Answers server sender lane places secret bytes (Ignored NotPending) =
    (sender ≡ server) × ((p : Packet) × IsReplyOf lane p bytes × (request_of places p.id ≡ None))
Answers server sender lane places secret bytes (Ignored WrongDigest) =
    (sender ≡ server) × ((p : Packet) × (r : Pending) × IsReplyTo lane places r p bytes × (¬ (IsSigned p (authenticator_of r) secret)))
Answers server sender lane places secret bytes (Matched owner) =
    (sender ≡ server) × ((p : Packet) × (r : Pending) × IsReplyTo lane places r p bytes × IsSigned p (authenticator_of r) secret × (owner ≡ r.owner))

abbrev pub WhenIgnored : Replied → Type 0 → Type 0
WhenIgnored (Ignored cause) P = P
WhenIgnored (Matched owner) P = Unit {0}

abbrev pub WhenMatched : Replied → Type 0 → Type 0
WhenMatched (Ignored cause) P = Unit {0}
WhenMatched (Matched owner) P = P
