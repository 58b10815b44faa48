-- What was sent for each request that is in hand, and how often to which server.
use Rattle.std.specs.Prelude.{◌≡◌, ◌==◌, ◌&&◌, ◌+◌, ◌≤◌, ◌<◌, ◌++◌, ℕ, List, [], ◌∷◌, Some, None, map, flat_map, replicate, take, slice_get, slice_index, if◌then◌else◌}
use Rattle.std.specs.List.{fold, last_or}
use Rattle.bng_base.specs.Packet.{Packet as Bytes}
use Rattle.bng_base.specs.declared.address.Peer.{Peer}
use Rattle.bng_rad_client.specs.declared.pending.Pending.{Pending}
use Rattle.bng_rad_client.specs.declared.rules.Lane.{Lane}
use Rattle.bng_rad_client.specs.declared.rules.Lane.TheVariants.{Auth, Acct}
use Rattle.bng_rad_client.specs.declared.rules.Owner.{Owner}
use Rattle.bng_failover.specs.declared.rules.DueSend.TheVariants.{Send as Again, TimedOut}
use Rattle.bng_failover.specs.declared.rules.FailAsked.TheVariants.{Send, Waiting}
use Rattle.bng_failover.specs.Calls.{Call, Asked, Heard, Due, Withdrawn}
use Rattle.bng_failover.specs.Laws.{SaysAgain}

-- a datagram: for whose request, to which server, at which moment, and its octets
pub record Sending : Type 0 where
  pub owner : Owner
  pub peer : Peer
  pub moment : ℕ
  pub octets : List ℕ

abbrev pub sending : Owner → Peer → (now : ℕ) → Bytes → Sending
sending owner peer now frame = record { owner = owner; peer = peer; moment = now; octets = frame.payload }

-- the trail of a request: the octets that were asked, and what was sent for it
pub record Trail : Type 0 where
  pub asked : List ℕ
  pub sends : List Sending

abbrev pub no_trail : Trail
no_trail = record { asked = []; sends = [] }

-- a request that was sent once, and one that was sent once more
abbrev pub begun : (request : List ℕ) → Sending → Trail
begun request s = record { asked = request; sends = s ∷ [] }

abbrev pub longer : Trail → Sending → Trail
longer t s = record t { sends = t.sends ++ s ∷ [] }

-- the trails of requests, by the server that holds each, from 0, and its identifier there
abbrev pub Trails : Type 0
Trails = (server id : ℕ) → Trail

-- where one request has this trail
abbrev pub with_trail : Trails → (server id : ℕ) → Trail → Trails
with_trail trails server id t = λ s i. if (s == server) && (i == id) then t else trails s i

-- the Identifier of a packet (RFC 2865 section 3)
abbrev pub identifier_of : List ℕ → ℕ
identifier_of octets = slice_index octets 1

-- what a call of a lane does to the trails in a lane
abbrev pub in_its_lane : Lane → Lane → (new old : Trails) → Trails
in_its_lane Auth Auth new old = new
in_its_lane Auth Acct new old = old
in_its_lane Acct Auth new old = old
in_its_lane Acct Acct new old = new

-- The trails in a lane after a call: that of a request that is taken in begins at the first server, and that of one that is sent
-- again goes on, at the server to which it is sent.
abbrev pub after : Lane → Trails → Call → Trails
after lane trails (Asked of owner request now frame (Send peer)) =
    in_its_lane lane of (with_trail trails 0 (identifier_of frame.payload) (begun request (sending owner peer now frame))) trails
after lane trails (Asked of owner request now frame Waiting) = trails
after lane trails (Heard of from octets result) = trails
after lane trails (Due now timeouts frame (Some (Again of peer)) (Some whose)) =
    in_its_lane lane of (with_trail trails whose.to (identifier_of frame.payload) (longer (trails whose.server whose.id) (sending whose.owner peer now frame))) trails
after lane trails (Due now timeouts frame (Some (Again of peer)) None) = trails
after lane trails (Due now timeouts frame (Some (TimedOut owner)) whose) = trails
after lane trails (Due now timeouts frame None whose) = trails
after lane trails (Withdrawn of server id result) = trails

-- the trails in a lane after calls that begin with no request in hand
abbrev pub trails_of : Lane → List Call → Trails
trails_of lane calls = fold (after lane) (λ s i. no_trail) calls

-- All that was sent for a request names its owner and says what was asked, and so does what is kept of it, which has the identifier
-- that the request has.
pub record IsTrailOf (t : Trail) (id : ℕ) (r : Pending) : Type 0 where
  pub owner : (k : ℕ) (s : Sending) → slice_get t.sends k ≡ Some s → s.owner ≡ r.owner
  pub says : (k : ℕ) (s : Sending) → slice_get t.sends k ≡ Some s → SaysAgain t.asked s.octets
  pub kept : SaysAgain t.asked r.octets
  pub identifier : identifier_of r.octets ≡ id

-- the servers to which datagrams went
abbrev pub servers_sent : List Sending → List Peer
servers_sent sends = map (λ (s : Sending). s.peer) sends

-- each server so many times, one server after another
abbrev pub each_times : ℕ → List Peer → List Peer
each_times tries servers = flat_map (λ (p : Peer). replicate tries p) servers

-- These sends of a request, which the server at a place holds, went to each server before it so many times, in their order, and
-- then to it, as often as the request counts; the last one at the moment that the request keeps.
pub record WentInTurn (servers : List Peer) (tries : ℕ) (sends : List Sending) (at : ℕ) (r : Pending) : Type 0 where
  pub server : Peer
  pub is : slice_get servers at ≡ Some server
  pub some : 0 < r.sends
  pub most : r.sends ≤ tries
  pub to : servers_sent sends ≡ each_times tries (take at servers) ++ replicate r.sends server
  pub last : Sending
  pub is_last : last_or None sends ≡ Some last
  pub moment : last.moment ≡ r.sent_at

-- these sends went to each server so many times, one server after another, and the last of them 3 s ago or longer
pub record WentToEach (servers : List Peer) (tries now : ℕ) (sends : List Sending) : Type 0 where
  pub to : servers_sent sends ≡ each_times tries servers
  pub last : Sending
  pub is_last : last_or None sends ≡ Some last
  pub over : last.moment + 3000 ≤ now
