-- Which datagram answers which request that is in hand (RFC 2865 sections 2 and 3, RFC 2866 section 2).
use Rattle.std.specs.Prelude.{◌≡◌, ℕ, List, Option, Some, None, slice_get, slice_set}
use Rattle.bng_base.specs.declared.address.Peer.{Peer}
use Rattle.bng_radius_wire.specs.Grammar.{Packet}
use Rattle.bng_radius_wire.specs.Digests.{IsSigned}
use Rattle.bng_rad_client.specs.declared.pending.Pending.{Pending}
use Rattle.bng_rad_client.specs.declared.replies.IgnoredReply.{IgnoredReply as Cause}
use Rattle.bng_rad_client.specs.declared.replies.IgnoredReply.TheVariants.{Stranger, Malformed, NotPending, WrongDigest}
use Rattle.bng_rad_client.specs.declared.replies.Replied.{Replied}
use Rattle.bng_rad_client.specs.declared.replies.Replied.TheVariants.{Matched, Ignored}
use Rattle.bng_rad_client.specs.declared.rules.Lane.{Lane}
use Rattle.bng_rad_client.specs.declared.rules.Owner.{Owner}
use Rattle.bng_rad_client.specs.Replies.{Answers, IsReplyOf, IsReplyTo, authenticator_of}
use Rattle.bng_rad_client.specs.Table.{Table}
use Rattle.bng_failover.specs.declared.server.Server.{Server}
use Rattle.bng_failover.specs.Servers.{without}

-- the request with the identifier of a reply is out no longer
pub record TakesOut (lane : Lane) (old new : Table) (bytes : List ℕ) : Type 0 where
  pub packet : Packet
  pub reply : IsReplyOf lane packet bytes
  pub places : new.places ≡ slice_set old.places packet.id None

-- none of the servers is the sender
abbrev pub IsStranger : List Server → Peer → Type 0
IsStranger servers from = (at : ℕ) (s : Server) → slice_get servers at ≡ Some s → ¬ (s.peer ≡ from)

-- the server at this place is the sender
pub record IsSender (servers : List Server) (from : Peer) (at : ℕ) : Type 0 where
  pub server : Server
  pub is : slice_get servers at ≡ Some server
  pub sender : server.peer ≡ from

-- a server is the sender, and what it sent is no reply to a request that is in hand at that server, for this cause
pub record IsIgnored (lane : Lane) (servers : List Server) (from : Peer) (secret bytes : List ℕ) (cause : Cause) : Type 0 where
  pub at : ℕ
  pub server : Server
  pub is : slice_get servers at ≡ Some server
  pub sender : server.peer ≡ from
  pub answer : Answers from from lane server.requests.places secret bytes (Ignored cause)

-- a server is the sender of the reply to the request of an owner that is in hand at that very server, and is out no longer
pub record IsMatched (lane : Lane) (old new : List Server) (from : Peer) (secret bytes : List ℕ) (owner : Owner) : Type 0 where
  pub at : ℕ
  pub server : Server
  pub is : slice_get old at ≡ Some server
  pub sender : server.peer ≡ from
  pub packet : Packet
  pub request : Pending
  pub reply : IsReplyTo lane server.requests.places request packet bytes
  pub signed : IsSigned packet (authenticator_of request) secret
  pub owner_is : owner ≡ request.owner
  pub servers : new ≡ without old at server packet.id

-- what a datagram of this sender is, the first cause for which it is passed over
abbrev pub Hears : Lane → (old new : List Server) → (from : Peer) → (secret bytes : List ℕ) → Replied → Type 0
Hears lane old new from secret bytes (Ignored Stranger) = IsStranger old from × (new ≡ old)
Hears lane old new from secret bytes (Ignored Malformed) = IsIgnored lane old from secret bytes Malformed × (new ≡ old)
Hears lane old new from secret bytes (Ignored NotPending) = IsIgnored lane old from secret bytes NotPending × (new ≡ old)
Hears lane old new from secret bytes (Ignored WrongDigest) = IsIgnored lane old from secret bytes WrongDigest × (new ≡ old)
Hears lane old new from secret bytes (Matched owner) = IsMatched lane old new from secret bytes owner

-- the owner whose request a datagram answers
abbrev pub answered : Replied → Option Owner
answered (Ignored cause) = None
answered (Matched owner) = Some owner
