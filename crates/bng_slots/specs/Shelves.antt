-- Values in a slab, each found by the key that stands at its place of a table.
use Rattle.std.specs.Prelude.{◌≡◌, ℕ, ◌≤◌, List, length, map, Option, Some, None, is_some, count_by, slice_index_or}
use Rattle.slab.specs.Slab.{Slab, get, ContainsKey, slab_len}

module _ {V : Type 0} where
  -- what the key of a place leads to
  abbrev pub led_to : Slab V → Option ℕ → Option V
  led_to slab None = None
  led_to slab (Some key) = get slab key

  -- each place's value
  abbrev pub placed : Slab V → List (Option ℕ) → List (Option V)
  placed slab keys = map (led_to slab) keys

  -- each key leads to a value, no two places have one key, the slab has no further value, and it has room for all places
  pub record IsShelf (slab : Slab V) (keys : List (Option ℕ)) : Type 0 where
    pub leads : (i k : ℕ) → slice_index_or keys i None ≡ Some k → ContainsKey slab k
    pub apart : (i j k : ℕ) → slice_index_or keys i None ≡ Some k → slice_index_or keys j None ≡ Some k → i ≡ j
    pub counted : slab_len slab ≡ count_by is_some keys
    pub room : length keys ≤ slab.capacity
