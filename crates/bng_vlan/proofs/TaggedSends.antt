-- How long a frame is that is sent for an entry.
use Rattle.std.proofs.Common.{◌≡◌, ℕ, ◌+◌, ◌≤◌, ◌==◌, List, ◌++◌, Option, Some, None, length, length-append, length-take, length-drop, take, drop, cond, nat_le, arith}
use Rattle.std.specs.List.{find}
use Rattle.std.proofs.lemmas.Bool.{eqb-true}
use Rattle.std.proofs.lemmas.Bool.Decides.{nat_tests}
use Rattle.bng_base.specs.Roles.{is_port}
use Rattle.bng_base.specs.declared.outside.Role.TheVariants.{Access}
use Rattle.bng_plant.specs.Calls.{send_most}
use Rattle.bng_vlan.specs.declared.map.VlanEntry.{VlanEntry}
use Rattle.bng_vlan.specs.declared.tag.Tags.{Tags}
use Rattle.bng_vlan.specs.Tags.{tag_octets, tagged}
use Rattle.bng_vlan.specs.Map.{Trunks, entry_of, role_of}
use Rattle.bng_vlan.proofs.Lists.{find_some}

-- the entry of a port has that port
pub port_of : (m : Trunks) (port : ℕ) (e : VlanEntry) → entry_of m (Access port) ≡ Some e → port ≡ e.access
port_of m port e found = eqb-true port e.access (find_some (λ (d : VlanEntry). is_port d.access (Access port)) m.entries e found)

pub port_most : (n : ℕ) → n ≤ 64 → send_most (Access n) ≡ 4160
port_most n small = grind (arith, nat_tests)

pub trunk_most : (t : ℕ) → 1 ≤ t → send_most (role_of t) ≡ 4168
trunk_most t from = grind (arith, nat_tests)

tags_few : (t : Tags) → length (tag_octets t) ≤ 8
tags_few t = by_inner t.inner
  where
    by_inner : (i : Option ℕ) → length (tag_octets (record { outer = t.outer; inner = i })) ≤ 8
    by_inner None = omega arith
    by_inner (Some inner) = omega arith

pub length-tagged : (t : Tags) (octets : List ℕ) → length (tagged t octets) ≤ length octets + 8
length-tagged t octets = omega (
  arith,
  tags_few t,
  length-append (take 12 octets ++ tag_octets t) (drop 12 octets),
  length-append (take 12 octets) (tag_octets t),
  length-take 12 octets,
  length-drop 12 octets,
)
