-- Where the frames are that trunks took.
use Rattle.std.specs.Prelude.{◌≡◌, ◌<◌, ℕ, ◌+◌, ◌-◌, ◌^◌, Bool, List, count_by, sum_by, filter, is_some, length}
use Rattle.bng_base.specs.declared.outside.Datagram.{Datagram}
use Rattle.bng_base.specs.Stretch.{PlantStretch}
use Rattle.bng_vlan.specs.declared.map.VlanEntry.{VlanEntry}
use Rattle.bng_vlan.specs.Map.{Trunks, is_trunk, entry_of}
use Rattle.bng_vlan.specs.Frames.{Came, is_of, is_stray}
use Rattle.bng_vlan.specs.Waiting.{Waiting}

-- how many of those that came are an entry's and pass a test
abbrev pub number_of : Trunks → (Came → Bool) → List Came → VlanEntry → ℕ
number_of m test came e = count_by test (filter (λ c. is_of m c e) came)

-- Of those that came each is one entry's or a stray, and none is two entries'.
abbrev pub AreParted : Trunks → List Came → Type 0
AreParted m came = (test : Came → Bool) → count_by test came ≡ sum_by (number_of m test came) m.entries + count_by test (filter (is_stray m) came)

-- how many frames wait
abbrev pub waiting_in : Waiting → ℕ
waiting_in v = sum_by (λ (q : List (List ℕ)). length q) v.frames

-- how many datagrams trunks took, and how many entries were given
abbrev pub taken_of_trunks : Trunks → List Datagram → ℕ
taken_of_trunks m taken = count_by (λ (d : Datagram). is_trunk m d.role) taken

abbrev pub given_to_entries : Trunks → List Datagram → ℕ
given_to_entries m taken = count_by (λ (d : Datagram). is_some (entry_of m d.role)) taken

-- Those that waited and those that trunks took are those that were given, wait, and were strays; while the count of strays does not
-- stand at its end.
abbrev pub AreOnce : Trunks → Waiting → (below above : PlantStretch) → Waiting → Type 0
AreOnce m v below above w =
    w.strays < 2 ^ 64 - 1 → waiting_in v + v.strays + taken_of_trunks m below.taken ≡ given_to_entries m above.taken + waiting_in w + w.strays
