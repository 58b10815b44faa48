-- What is done at one server of a lane, by its place.
use Rattle.std.specs.Prelude.{◌≡◌, ◌<◌, ℕ, List, Option, Some, length, slice_get}
use Rattle.bng_base.specs.Packet.{Packet as Bytes}
use Rattle.bng_base.specs.declared.address.Peer.{Peer}
use Rattle.bng_rad_client.specs.declared.pending.Pending.{Pending}
use Rattle.bng_rad_client.specs.declared.replies.Replied.{Replied}
use Rattle.bng_rad_client.specs.declared.rules.Lane.{Lane}
use Rattle.bng_rad_client.specs.Replies.{Answers, WhenIgnored, WhenMatched}
use Rattle.bng_rad_client.specs.Table.{Table, request_of, taken}
use Rattle.bng_failover.specs.declared.server.Server.{Server}
use Rattle.bng_failover.specs.Servers.{request_at, with_table, without}
use Rattle.bng_failover.specs.Asking.{IsAskedAt}
use Rattle.bng_failover.specs.Replies.{TakesOut}
use Rattle.bng_failover.specs.Due.{goes_to}

-- fewer than 256 requests are in hand at the server at a place
abbrev pub HasRoomAt : List Server → ℕ → Type 0
HasRoomAt servers at = (s : Server) → slice_get servers at ≡ Some s → taken s.requests.places < 256

-- the request that the server at a place holds under an identifier is out no longer
pub record IsWithdrawnAt (old new : List Server) (at id : ℕ) (r : Option Pending) : Type 0 where
  pub server : Server
  pub is : slice_get old at ≡ Some server
  pub request : r ≡ request_of server.requests.places id
  pub servers : new ≡ without old at server id

-- the request that the server at a place holds under an identifier is asked of another one
pub record IsHandedOver (old new : List Server) (from id to : ℕ) (secret : List ℕ) (now : ℕ) (peer : Peer) (frame : Bytes) : Type 0 where
  pub server : Server
  pub is : slice_get old from ≡ Some server
  pub request : Pending
  pub was : request_of server.requests.places id ≡ Some request
  pub asked : IsAskedAt (without old from server id) new to request.owner request.octets secret now peer frame

-- what a datagram of the server at a place is
pub record HearsAt (lane : Lane) (old new : List Server) (at : ℕ) (secret bytes : List ℕ) (result : Replied) : Type 0 where
  pub server : Server
  pub is : slice_get old at ≡ Some server
  pub answer : Answers server.peer server.peer lane server.requests.places secret bytes result
  pub table : Table
  pub ignored : WhenIgnored result (table ≡ server.requests)
  pub matched : WhenMatched result (TakesOut lane server.requests table bytes)
  pub last : table.last ≡ server.requests.last
  pub servers : new ≡ with_table old at server table

-- the server to which the request goes that the server at a place holds under an identifier
abbrev pub GoesTo : Lane → List Server → (tries at id : ℕ) → Option ℕ → Type 0
GoesTo lane servers tries at id next = (r : Pending) → request_at servers at id ≡ Some r → next ≡ goes_to lane (length servers) tries at r
