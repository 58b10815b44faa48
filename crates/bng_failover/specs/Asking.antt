-- A request that a server is asked.
use Rattle.std.specs.Prelude.{◌≡◌, ℕ, List, Some, slice_get, length}
use Rattle.bng_base.specs.Packet.{Packet as Bytes}
use Rattle.bng_base.specs.declared.address.Peer.{Peer}
use Rattle.bng_radius_wire.specs.Grammar.{Packet, IsRadius, length_in}
use Rattle.bng_radius_wire.specs.Digests.{CanBeSigned}
use Rattle.bng_rad_client.specs.declared.rules.Owner.{Owner}
use Rattle.bng_rad_client.specs.Asking.{IsAsked}
use Rattle.bng_rad_client.specs.Table.{Table}
use Rattle.bng_failover.specs.declared.rules.FailAsked.{FailAsked}
use Rattle.bng_failover.specs.declared.rules.FailAsked.TheVariants.{Send, Waiting}
use Rattle.bng_failover.specs.declared.server.Server.{Server}
use Rattle.bng_failover.specs.Servers.{with_table}

abbrev pub WhenSend : FailAsked → (Peer → Type 0) → Type 0
WhenSend (Send peer) P = P peer
WhenSend Waiting P = Unit {0}

abbrev pub WhenWaiting : FailAsked → Type 0 → Type 0
WhenWaiting (Send peer) P = Unit {0}
WhenWaiting Waiting P = P

-- the request at the front of the octets has the next free identifier of a server; the frame holds it with that identifier,
-- signed and without what pads it
pub record Asks (old new : Table) (owner : Owner) (request secret : List ℕ) (now : ℕ) (frame : Bytes) : Type 0 where
  pub packet : Packet
  pub reads : IsRadius packet request
  pub can : CanBeSigned packet
  pub id : ℕ
  pub asked : IsAsked old new owner packet secret now id frame
  pub size : length frame.payload ≡ length_in request

-- the server at this place, which has this address, is asked; the others are as they were
pub record IsAskedAt (old new : List Server) (at : ℕ) (owner : Owner) (request secret : List ℕ) (now : ℕ) (peer : Peer) (frame : Bytes) : Type 0 where
  pub server : Server
  pub is : slice_get old at ≡ Some server
  pub peer_is : peer ≡ server.peer
  pub table : Table
  pub asks : Asks server.requests table owner request secret now frame
  pub servers : new ≡ with_table old at server table
