-- The frames of trunks, and whose each is.
use Rattle.std.specs.Prelude.{ℕ, ◌-◌, ◌==◌, ◌&&◌, not, Bool, true, false, List, Option, Some, None, filter, map, slice_get}
use Rattle.std.specs.List.{list_any}
use Rattle.bng_base.specs.declared.address.Peer.{Peer}
use Rattle.bng_base.specs.declared.outside.Datagram.{Datagram}
use Rattle.bng_base.specs.declared.outside.Heard.{Heard}
use Rattle.bng_base.specs.declared.outside.Heard.TheVariants.{Receive}
use Rattle.bng_base.specs.declared.outside.Received.{Received}
use Rattle.bng_base.specs.declared.outside.Received.TheVariants.{Got}
use Rattle.bng_vlan.specs.declared.tag.Tags.{Tags}
use Rattle.bng_vlan.specs.declared.map.VlanEntry.{VlanEntry}
use Rattle.bng_vlan.specs.Tags.{tags_of, without}
use Rattle.bng_vlan.specs.Map.{Trunks, role_of}

-- a datagram of a trunk: its sender, whether it was cut, and its octets
pub record Came : Type 0 where
  pub trunk : ℕ
  pub from : Peer
  pub cut : Bool
  pub octets : List ℕ

-- the receive that took it, and what was taken
abbrev pub receive_of : Came → Heard
receive_of c = Receive (role_of c.trunk) (Got c.from c.cut)

abbrev pub datagram_of : Came → Datagram
datagram_of c = record { role = role_of c.trunk; peer = c.from; octets = c.octets }

abbrev pub same_peer : Peer → Peer → Bool
same_peer a b = (a.ip.0 == b.ip.0) && (a.port == b.port)

-- it is this trunk's peer
abbrev pub is_peer : Option Peer → Peer → Bool
is_peer None from = false
is_peer (Some peer) from = same_peer peer from

abbrev pub same_inner : Option ℕ → Option ℕ → Bool
same_inner None None = true
same_inner None (Some b) = false
same_inner (Some a) None = false
same_inner (Some a) (Some b) = a == b

-- the tags are the entry's
abbrev pub has_tags : VlanEntry → Option Tags → Bool
has_tags e None = false
has_tags e (Some t) = (e.outer == t.outer) && same_inner e.inner t.inner

-- a frame that came whole from the peer of its trunk
abbrev pub is_whole : Trunks → Came → Bool
is_whole m c = not c.cut && is_peer (slice_get m.peers (c.trunk - 1)) c.from

-- the frame is the entry's
abbrev pub is_of : Trunks → Came → VlanEntry → Bool
is_of m c e = is_whole m c && ((e.trunk == c.trunk) && has_tags e (tags_of c.octets))

-- the frame is no entry's
abbrev pub is_stray : Trunks → Came → Bool
is_stray m c = not (list_any (is_of m c) m.entries)

-- the frames of an entry, without their tags
abbrev pub frames_of : Trunks → VlanEntry → List Came → List (List ℕ)
frames_of m e came = map (λ c. without e.inner c.octets) (filter (λ c. is_of m c e) came)
