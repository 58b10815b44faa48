-- When a request is sent again, handed to the next server, or given up (RFC 2865 section 2.5, RFC 2866 section 2).
use Rattle.std.specs.Prelude.{◌≡◌, ◌+◌, ◌-◌, ◌^◌, ◌≤◌, ◌<◌, min, ℕ, nat_lt, nat_le, if◌then◌else◌, List, Option, Some, None, length, slice_get, unwrap_or}
use Rattle.bng_base.specs.Packet.{Packet as Bytes}
use Rattle.bng_base.specs.declared.address.Peer.{Peer}
use Rattle.bng_rad_client.specs.declared.due.LastSend.{LastSend}
use Rattle.bng_rad_client.specs.declared.due.Sought.{Sought}
use Rattle.bng_rad_client.specs.declared.due.Sought.TheVariants.{Timeout, Resend, Endless}
use Rattle.bng_rad_client.specs.declared.pending.Pending.{Pending}
use Rattle.bng_rad_client.specs.declared.rules.Lane.{Lane}
use Rattle.bng_rad_client.specs.declared.rules.Lane.TheVariants.{Auth, Acct}
use Rattle.bng_rad_client.specs.declared.rules.Owner.{Owner}
use Rattle.bng_rad_client.specs.Due.{is_sought, IsOldestBelow, NoneBelow}
use Rattle.bng_rad_client.specs.Sends.{IsSentAgain}
use Rattle.bng_rad_client.specs.Table.{Table}
use Rattle.bng_failover.specs.declared.server.Server.{Server}
use Rattle.bng_failover.specs.Asking.{IsAskedAt}
use Rattle.bng_failover.specs.Servers.{request_at, with_table, without}

-- Which requests of a server are sent when they are due: all, but for an Access-Request that the last server was sent as often
-- as it is to be.
abbrev pub sought_of : Lane → (count tries server : ℕ) → Sought
sought_of Auth count tries server = if nat_lt (server + 1) count then Endless else Resend tries
sought_of Acct count tries server = Endless

-- The server to which a request goes from another: the next one, and for an Accounting-Request the first after the last.
-- None where there is no other.
abbrev pub next_of : Lane → (count server : ℕ) → Option ℕ
next_of Auth count server = if nat_lt (server + 1) count then Some (server + 1) else None
next_of Acct count server = if nat_lt (server + 1) count then Some (server + 1) else (if nat_lt 0 server then Some 0 else None)

-- the server to which a request goes, once it was sent as often as it is to be
abbrev pub goes_to : Lane → (count tries server : ℕ) → Pending → Option ℕ
goes_to lane count tries server r = if nat_lt r.sends tries then None else next_of lane count server

-- no request of the servers before a place is due
abbrev pub NoneDueBelow : Lane → List Server → (tries now place : ℕ) → Type 0
NoneDueBelow lane servers tries now place =
    (at : ℕ) (s : Server) → at < place → slice_get servers at ≡ Some s → NoneBelow (is_sought (sought_of lane (length servers) tries at) now) s.requests.places 256

-- no request of a lane is due to be sent
abbrev pub NoneDue : Lane → List Server → (tries now : ℕ) → Type 0
NoneDue lane servers tries now = NoneDueBelow lane servers tries now (length servers)

-- this server is the first of which a request is due to be sent, and this request is the one of it that was sent first
pub record IsFirstDue (lane : Lane) (servers : List Server) (tries now at : ℕ) (due : LastSend) : Type 0 where
  pub server : Server
  pub is : slice_get servers at ≡ Some server
  pub oldest : IsOldestBelow (is_sought (sought_of lane (length servers) tries at) now) server.requests.places 256 due
  pub before : NoneDueBelow lane servers tries now at

-- the octets of a request are sent again to the server that holds it, which has this address
pub record IsRepeatedAt (old new : List Server) (at id now : ℕ) (peer : Peer) (frame : Bytes) : Type 0 where
  pub server : Server
  pub is : slice_get old at ≡ Some server
  pub peer_is : peer ≡ server.peer
  pub table : Table
  pub sent : IsSentAgain server.requests table id now frame
  pub servers : new ≡ with_table old at server table

-- a request that stays at its server, or goes to another one
abbrev pub Goes : Option ℕ → (old new : List Server) → (at : ℕ) → Server → (id : ℕ) → Pending → (secret : List ℕ) → (now : ℕ) → Peer → Bytes → Type 0
Goes None old new at server id r secret now peer frame = IsRepeatedAt old new at id now peer frame
Goes (Some next) old new at server id r secret now peer frame = IsAskedAt (without old at server id) new next r.owner r.octets secret now peer frame

-- the request of an owner that is due first is sent to this server
pub record IsSent (lane : Lane) (old new : List Server) (secret : List ℕ) (tries now : ℕ) (owner : Owner) (peer : Peer) (frame : Bytes) : Type 0 where
  pub at : ℕ
  pub due : LastSend
  pub first : IsFirstDue lane old tries now at due
  pub owner_is : owner ≡ first.oldest.request.owner
  pub goes : Goes (goes_to lane (length old) tries at first.oldest.request) old new at first.server due.id first.oldest.request secret now peer frame

-- a request that is sent again: its owner, the server that held it, from 0, and its identifier there, and the server that it is
-- sent to
pub record Whose : Type 0 where
  pub owner : Owner
  pub server : ℕ
  pub id : ℕ
  pub to : ℕ

-- the request that is due first is this one
pub record IsSentFrom (lane : Lane) (old new : List Server) (secret : List ℕ) (tries now : ℕ) (whose : Whose) (peer : Peer) (frame : Bytes) : Type 0 where
  pub sent : IsSent lane old new secret tries now whose.owner peer frame
  pub server : whose.server ≡ sent.at
  pub id : whose.id ≡ sent.due.id
  pub to : whose.to ≡ unwrap_or (goes_to lane (length old) tries sent.at sent.first.oldest.request) sent.at

-- no request was sent as often to the last server as it is to be, and 3 s ago or longer
abbrev pub NoneGivenUp : List Server → (tries now : ℕ) → Type 0
NoneGivenUp servers tries now =
    (at : ℕ) (s : Server) → at + 1 ≡ length servers → slice_get servers at ≡ Some s → NoneBelow (is_sought (Timeout tries) now) s.requests.places 256

-- this is the last server, and of those requests of it the one that was sent first
pub record HasTimedOut (servers : List Server) (tries now at : ℕ) (due : LastSend) : Type 0 where
  pub last : at + 1 ≡ length servers
  pub server : Server
  pub is : slice_get servers at ≡ Some server
  pub oldest : IsOldestBelow (is_sought (Timeout tries) now) server.requests.places 256 due

-- the request of an owner is out no longer, which was sent first of those
pub record IsGivenUp (old new : List Server) (tries now : ℕ) (owner : Owner) : Type 0 where
  pub at : ℕ
  pub due : LastSend
  pub first : HasTimedOut old tries now at due
  pub owner_is : owner ≡ first.oldest.request.owner
  pub servers : new ≡ without old at first.server due.id

-- no request of the servers before a place is in hand
abbrev pub NoneInHandBelow : List Server → ℕ → Type 0
NoneInHandBelow servers place = (at id : ℕ) (r : Pending) → at < place → id < 256 → ¬ (request_at servers at id ≡ Some r)

-- of the requests in hand at the servers before a place this one was sent first
pub record WasSentFirst (servers : List Server) (place sent_at : ℕ) : Type 0 where
  pub at : ℕ
  pub id : ℕ
  pub request : Pending
  pub here : at < place
  pub below : id < 256
  pub is : request_at servers at id ≡ Some request
  pub moment : sent_at ≡ request.sent_at
  pub first : (server other : ℕ) (r : Pending) → server < place → other < 256 → request_at servers server other ≡ Some r → sent_at ≤ r.sent_at

abbrev pub IsEarliest : List Server → ℕ → Option ℕ → Type 0
IsEarliest servers place None = NoneInHandBelow servers place
IsEarliest servers place (Some sent_at) = WasSentFirst servers place sent_at

-- the earlier of two moments, if there is one
abbrev pub earlier : Option ℕ → Option LastSend → Option ℕ
earlier best None = best
earlier None (Some d) = Some d.sent_at
earlier (Some moment) (Some d) = if nat_le moment d.sent_at then Some moment else Some d.sent_at

-- 3 s after the last send of the request that was sent first
abbrev pub IsDeadline : List Server → Option ℕ → Type 0
IsDeadline servers None = NoneInHandBelow servers (length servers)
IsDeadline servers (Some at) = (sent_at : ℕ) × WasSentFirst servers (length servers) sent_at × (at ≡ min (2 ^ 64 - 1) (sent_at + 3000))
