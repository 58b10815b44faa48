-- Where all sockets are ready, those that were before are so still.
use Rattle.std.proofs.Common.{◌≡◌, ℕ, Bool, true, false, List, length, replicate, slice_index_or, arith}
use Rattle.std.proofs.lemmas.List.{get_or-replicate, get_or_past}

pub all_stay : (old : List Bool) → length old ≡ 262 → (place : ℕ) → slice_index_or old place false ≡ true → slice_index_or (replicate 262 true) place false ≡ true
all_stay old fits place was = grind (arith, get_or_past old place false, get_or-replicate 262 place true false, fits, was)
