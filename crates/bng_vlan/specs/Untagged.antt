-- What a plant over trunks adds, by what the plant below adds.
use Rattle.std.specs.Prelude.{◌≡◌, ℕ, ◌+◌, ◌-◌, ◌^◌, not, Bool, true, false, ◌&&◌, List, ◌++◌, Option, Some, None, count_by, filter, map, is_some, min, slice_get, unwrap_or}
use Rattle.bng_base.specs.declared.address.Peer.{Peer}
use Rattle.bng_base.specs.declared.outside.Role.{Role}
use Rattle.bng_base.specs.declared.outside.Role.TheVariants.{Access}
use Rattle.bng_base.specs.declared.outside.Datagram.{Datagram}
use Rattle.bng_base.specs.declared.outside.Heard.{Heard}
use Rattle.bng_base.specs.declared.outside.Heard.TheVariants.{Receive, Wait}
use Rattle.bng_base.specs.declared.outside.Received.{Received}
use Rattle.bng_base.specs.declared.outside.Received.TheVariants.{Got, Empty, Failed}
use Rattle.bng_base.specs.Roles.{is_port}
use Rattle.bng_base.specs.Stretch.{PlantStretch}
use Rattle.bng_vlan.specs.declared.map.VlanEntry.{VlanEntry}
use Rattle.bng_vlan.specs.Tags.{tagged}
use Rattle.bng_vlan.specs.Map.{Trunks, tags_in, role_of, is_trunk, entry_of, nobody}
use Rattle.bng_vlan.specs.Frames.{Came, receive_of, datagram_of, frames_of, is_stray}
use Rattle.bng_vlan.specs.Waiting.{Waiting, counted, frames_at}
use Rattle.bng_vlan.specs.Hearing.{Hears}

-- a receive that took a datagram of a trunk
abbrev pub took_of_trunk : Trunks → Heard → Bool
took_of_trunk m (Receive role (Got from cut)) = is_trunk m role
took_of_trunk m (Receive role Empty) = false
took_of_trunk m (Receive role Failed) = false
took_of_trunk m (Wait ms) = false

-- These datagrams of trunks are those that came in a stretch, in order.
pub record AreOf (m : Trunks) (came : List Came) (below : PlantStretch) : Type 0 where
  pub heard : filter (took_of_trunk m) below.heard ≡ map receive_of came
  pub taken : filter (λ d. is_trunk m d.role) below.taken ≡ map datagram_of came

-- the frame as the datagram of an entry's port: the peer of its trunk sent it
abbrev pub gift : Trunks → VlanEntry → List ℕ → Datagram
gift m e octets = record { role = Access e.access; peer = unwrap_or (slice_get m.peers (e.trunk - 1)) nobody; octets = octets }

abbrev pub gifts : Trunks → VlanEntry → List (List ℕ) → List Datagram
gifts m e frames = map (gift m e) frames

-- what an entry was given
abbrev pub given_to : VlanEntry → List Datagram → List Datagram
given_to e taken = filter (λ d. is_port e.access d.role) taken

-- a datagram that is sent for an entry goes out on its trunk with its tags, and any other as it is
abbrev pub sent_as : Datagram → Option VlanEntry → Datagram
sent_as d None = d
sent_as d (Some e) = record { role = role_of e.trunk; peer = d.peer; octets = tagged (tags_in e) d.octets }

abbrev pub tagged_by : Trunks → Datagram → Datagram
tagged_by m d = sent_as d (entry_of m d.role)

-- For each entry what waited and what came with its tags is what it was given and what waits. All else that came of trunks is
-- counted, and what came of other roles is given as it came.
pub record Untagged (m : Trunks) (v : Waiting) (below above : PlantStretch) (w : Waiting) : Type 0 where
  pub came : List Came
  pub are : AreOf m came below
  pub each : (i : ℕ) (e : VlanEntry) → slice_get m.entries i ≡ Some e → gifts m e (frames_at i v.frames) ++ gifts m e (frames_of m e came) ≡ given_to e above.taken ++ gifts m e (frames_at i w.frames)
  pub strays : w.strays ≡ counted v.strays (count_by (is_stray m) came)
  pub others : filter (λ d. not (is_trunk m d.role)) below.taken ≡ filter (λ d. not (is_some (entry_of m d.role))) above.taken
  pub sent : below.sent ≡ map (tagged_by m) above.sent
  pub heard : Hears m above.heard below.heard
  pub failed : below.failed ≡ above.failed
