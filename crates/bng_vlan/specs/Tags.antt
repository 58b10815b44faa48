-- VLAN tags of Ethernet frames (IEEE 802.1Q clause 9).
use Rattle.std.specs.Prelude.{ℕ, ◌+◌, ◌*◌, ◌/◌, ◌%◌, ◌==◌, ◌&&◌, ◌||◌, Bool, true, false, List, [], ◌∷◌, ◌++◌, Option, Some, None, take, drop, length, nat_le, if◌then◌else◌, slice_index}
use Rattle.bng_vlan.specs.declared.tag.Tags.{Tags}

-- the two octets at a place, the most significant first
abbrev pub word_at : ℕ → List ℕ → ℕ
word_at at octets = 256 * slice_index octets at + slice_index octets (at + 1)

-- this EtherType stands at a place
abbrev pub has_type : (at kind : ℕ) → List ℕ → Bool
has_type at kind octets = nat_le (at + 2) (length octets) && (word_at at octets == kind)

-- a VLAN identifier: the low 12 bits of the control information at a place, whatever its other four are
abbrev pub vlan_at : ℕ → List ℕ → ℕ
vlan_at at octets = word_at at octets % 4096

-- a C-TAG follows the first tag, which is a C-TAG or an S-TAG
abbrev pub has_pair : List ℕ → Bool
has_pair octets = (has_type 12 33024 octets || has_type 12 34984 octets) && has_type 16 33024 octets

abbrev pub has_one : List ℕ → Bool
has_one octets = has_type 12 33024 octets && nat_le 16 (length octets)

-- the tags behind the two addresses of a frame; none where the last of them is cut off
abbrev pub tags_of : List ℕ → Option Tags
tags_of octets =
    if has_pair octets
    then (if nat_le 20 (length octets) then Some (record { outer = vlan_at 14 octets; inner = Some (vlan_at 18 octets) }) else None)
    else (if has_one octets then Some (record { outer = vlan_at 14 octets; inner = None }) else None)

-- how many octets tags have
abbrev pub width_of : Option ℕ → ℕ
width_of None = 4
width_of (Some inner) = 8

-- a frame without the tags behind its addresses
abbrev pub without : Option ℕ → List ℕ → List ℕ
without inner octets = take 12 octets ++ drop (12 + width_of inner) octets

-- an EtherType and control information whose four high bits are 0
abbrev tag : (high low vlan : ℕ) → List ℕ
tag high low vlan = high ∷ low ∷ (vlan / 256) ∷ (vlan % 256) ∷ []

-- tags as they are written: a C-TAG, or an S-TAG and a C-TAG
abbrev pub tag_octets : Tags → List ℕ
tag_octets t = tag_octets_of t.outer t.inner
  where
    tag_octets_of : ℕ → Option ℕ → List ℕ
    tag_octets_of outer None = tag 129 0 outer
    tag_octets_of outer (Some inner) = tag 136 168 outer ++ tag 129 0 inner

-- a frame with these tags behind its addresses, or at its end where it is shorter than these
abbrev pub tagged : Tags → List ℕ → List ℕ
tagged t octets = take 12 octets ++ tag_octets t ++ drop 12 octets
