-- Which access ports are VLANs of which trunks.
use Rattle.std.specs.Prelude.{◌≡◌, ◌≤◌, ℕ, ◌+◌, ◌-◌, ◌==◌, ◌&&◌, Bool, true, false, List, Option, Some, None, find, length, nat_le, nat_lt, slice_get}
use Rattle.bng_base.specs.declared.address.Peer.{Peer}
use Rattle.bng_base.specs.declared.outside.Role.{Role}
use Rattle.bng_base.specs.declared.outside.Role.TheVariants.{Access, Core, Tunnel, Auth, Acct, Coa, Control}
use Rattle.bng_base.specs.Roles.{is_port}
use Rattle.bng_vlan.specs.declared.tag.Tags.{Tags}
use Rattle.bng_vlan.specs.declared.map.VlanEntry.{VlanEntry}

-- the peers of the trunks, from trunk 1 on, and the entries
pub record Trunks : Type 0 where
  pub peers : List Peer
  pub entries : List VlanEntry

abbrev pub tags_in : VlanEntry → Tags
tags_in e = record { outer = e.outer; inner = e.inner }

-- the role that a trunk is bound as
abbrev pub role_of : ℕ → Role
role_of trunk = Access (239 + trunk)

-- the role is that of a trunk
abbrev pub is_trunk : Trunks → Role → Bool
is_trunk m (Access n) = nat_le 240 n && nat_lt n (240 + length m.peers)
is_trunk m Core = false
is_trunk m Tunnel = false
is_trunk m Auth = false
is_trunk m Acct = false
is_trunk m Coa = false
is_trunk m Control = false

-- the entry of a role
abbrev pub entry_of : Trunks → Role → Option VlanEntry
entry_of m role = find (λ e. is_port e.access role) m.entries

-- where a trunk has no peer
abbrev pub nobody : Peer
nobody = record { ip = record { 0 = 0 }; port = 0 }

-- a VLAN identifier that frames may carry (IEEE 802.1Q table 9-2)
abbrev pub IsVlan : ℕ → Type 0
IsVlan vlan = (1 ≤ vlan) × (vlan ≤ 4094)

pub record AreVlans (t : Tags) : Type 0 where
  pub outer : IsVlan t.outer
  pub inner : (vlan : ℕ) → t.inner ≡ Some vlan → IsVlan vlan

-- an entry of one of so many trunks
pub record IsEntry (trunks : ℕ) (e : VlanEntry) : Type 0 where
  pub trunk_from : 1 ≤ e.trunk
  pub trunk_to : e.trunk ≤ trunks
  pub access_from : 1 ≤ e.access
  pub access_to : e.access ≤ 64
  pub outer : IsVlan e.outer
  pub inner : (vlan : ℕ) → e.inner ≡ Some vlan → IsVlan vlan

-- no two entries have one access port, and no two of one trunk have the same tags
pub record IsMap (m : Trunks) : Type 0 where
  pub few_trunks : length m.peers ≤ 16
  pub few_entries : length m.entries ≤ 64
  pub each : (i : ℕ) (e : VlanEntry) → slice_get m.entries i ≡ Some e → IsEntry (length m.peers) e
  pub ports : (i j : ℕ) (d e : VlanEntry) → slice_get m.entries i ≡ Some d → slice_get m.entries j ≡ Some e → d.access ≡ e.access → i ≡ j
  pub tags : (i j : ℕ) (d e : VlanEntry) → slice_get m.entries i ≡ Some d → slice_get m.entries j ≡ Some e → d.trunk ≡ e.trunk → tags_in d ≡ tags_in e → i ≡ j
