-- The servers of a lane in their order, and the requests that are in hand at each.
use Rattle.std.specs.Prelude.{◌≡◌, ◌+◌, ◌≤◌, ◌<◌, ℕ, Bool, false, List, Option, Some, None, length, sum_by, count_by, is_some, slice_get, slice_set, if◌then◌else◌}
use Rattle.bng_base.specs.declared.address.Peer.{Peer}
use Rattle.bng_radius_wire.specs.Grammar.{Packet, IsRadius}
use Rattle.bng_radius_wire.specs.Digests.{CanBeSigned}
use Rattle.bng_rad_client.specs.declared.pending.Pending.{Pending}
use Rattle.bng_rad_client.specs.declared.rules.Owner.{Owner}
use Rattle.bng_rad_client.specs.State.{empty}
use Rattle.bng_rad_client.specs.Table.{Table, request_of}
use Rattle.bng_failover.specs.declared.server.Server.{Server}

-- a server with no request, the first of whose identifiers will be 0
abbrev pub new_server : Peer → Server
new_server p = record { peer = p; requests = empty }

-- the request that a server holds under an identifier, if there is one
abbrev pub held_by : Option Server → ℕ → Option Pending
held_by None id = None
held_by (Some s) id = request_of s.requests.places id

-- the request that the server at a place, from 0, holds under an identifier
abbrev pub request_at : List Server → (server id : ℕ) → Option Pending
request_at servers server id = held_by (slice_get servers server) id

-- how many identifiers of all servers pass a test
abbrev pub number : (Option Pending → Bool) → List Server → ℕ
number test servers = sum_by (λ (s : Server). count_by test s.requests.places) servers

-- how many requests are in hand
abbrev pub in_hand : List Server → ℕ
in_hand servers = number is_some servers

-- whether a request is there whose owner passes a test
abbrev pub is_of : (Owner → Bool) → Option Pending → Bool
is_of test None = false
is_of test (Some r) = test r.owner

-- how many of the owners in hand pass a test
abbrev pub held : (Owner → Bool) → List Server → ℕ
held test servers = number (is_of test) servers

-- one, where the owner passes a test
abbrev pub one_of : (Owner → Bool) → Owner → ℕ
one_of test owner = if test owner then 1 else 0

-- the owners in hand are those of before, in any order, and this one
abbrev pub Gains : (old new : List Server) → Owner → Type 0
Gains old new owner = (test : Owner → Bool) → held test new ≡ held test old + one_of test owner

-- the owners in hand are those of before, in any order, without this one
abbrev pub Loses : (old new : List Server) → Owner → Type 0
Loses old new owner = (test : Owner → Bool) → held test old ≡ held test new + one_of test owner

-- the owners in hand are those of before, in any order
abbrev pub Keeps : (old new : List Server) → Type 0
Keeps old new = (test : Owner → Bool) → held test new ≡ held test old

-- the owners in hand once an answer named one of them, or none
abbrev pub Leaves : Option Owner → (old new : List Server) → Type 0
Leaves None old new = Keeps old new
Leaves (Some owner) old new = Loses old new owner

-- the servers with other requests at one of them, which stands at this place
abbrev pub with_table : List Server → ℕ → Server → Table → List Server
with_table servers at s table = slice_set servers at (record s { requests = table })

-- the servers with an identifier of one of them free
abbrev pub without : List Server → ℕ → Server → ℕ → List Server
without servers at s id = with_table servers at s (record s.requests { places = slice_set s.requests.places id None })

-- octets that begin with a request that can be signed
pub record CanBeAsked (octets : List ℕ) : Type 0 where
  pub packet : Packet
  pub reads : IsRadius packet octets
  pub can : CanBeSigned packet

-- a server has 256 identifiers, and each of its requests can be signed
pub record IsSoundServer (s : Server) : Type 0 where
  pub size : length s.requests.places ≡ 256
  pub requests : (id : ℕ) (r : Pending) → request_of s.requests.places id ≡ Some r → CanBeAsked r.octets

-- there is a server, and no more than 256 requests are in hand
pub record AreSound (servers : List Server) : Type 0 where
  pub some : 0 < length servers
  pub most : in_hand servers ≤ 256
  pub each : (at : ℕ) (s : Server) → slice_get servers at ≡ Some s → IsSoundServer s
