-- Flat lists that are cut into parts.
use Rattle.std.specs.Prelude.{ℕ, ◌-◌, List, [], ◌∷◌, take, drop, vec_len, vec_capacity}
use Rattle.bng_plant.specs.declared.parts.Parts.{Parts}

-- the parts of a list that have these lengths, one after the other
abbrev pub cut : {X : Type 0} → List ℕ → List X → List (List X)
cut [] xs = []
cut (n ∷ ns) xs = take n xs ∷ cut ns (drop n xs)

abbrev pub parts_of : {X : Type 0} → Parts X → List (List X)
parts_of p = cut p.lengths.items p.items.items

-- how many parts more, and how many items more, it has room for
pub record PartsRoom : Type 0 where
  pub parts : ℕ
  pub items : ℕ

abbrev pub room_of : {X : Type 0} → Parts X → PartsRoom
room_of p = record { parts = vec_capacity p.lengths - vec_len p.lengths; items = vec_capacity p.items - vec_len p.items }
