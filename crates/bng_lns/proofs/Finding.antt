-- What is found in a list, and where.
use Rattle.std.proofs.Common.{◌≡◌, ℕ, zero, suc, ◌<◌, ◌≤◌, Bool, true, false, not, cond, nat_lt, None, Some, List, [], ◌∷◌, length, slice_get, refl, sym, ap, ◌∙◌, arith}
use Rattle.std.specs.Prelude.{◌+◌, find, position, IsSome, is_some}
use Rattle.std.specs.List.{prefix_len, position_or_len}
use Rattle.std.proofs.lemmas.List.Folds.{find_at}
use Rattle.std.proofs.lemmas.List.Quantifiers.{position-Some}
use Rattle.std.proofs.lemmas.Option.{cond_some, slice_get_past, get_or_from_slice_get}
use Rattle.std.proofs.lemmas.Bool.{ltb-true, ltb-false}

pub some_there : {X : Type 0} (xs : List X) (k : ℕ) → k < length xs → (x : X) × (slice_get xs k ≡ Some x)
some_there [] k h = absurd (omega (arith, h))
some_there (x ∷ xs) zero h = (x, refl)
some_there (x ∷ xs) (suc k) h = some_there xs k (omega (arith, h))

module _ {X : Type 0} (p : X → Bool) where
  -- what is found stands at the position
  pub found_at : (xs : List X) (k : ℕ) → position p xs ≡ Some k → find p xs ≡ slice_get xs k
  found_at xs k e =
      find_at p xs ∙ ap (slice_get xs) (cond_some (nat_lt (position_or_len p xs) (length xs)) (position_or_len p xs) k e).1

  -- there is such a place
  pub found_within : (xs : List X) (k : ℕ) → position p xs ≡ Some k → k < length xs
  found_within xs k e =
      let both = cond_some (nat_lt (position_or_len p xs) (length xs)) (position_or_len p xs) k e in
      omega (arith, ltb-true (position_or_len p xs) (length xs) both.0, both.1)

  -- what is found passes
  pub found_passes : (xs : List X) (k : ℕ) (x : X) → position p xs ≡ Some k → slice_get xs k ≡ Some x → p x ≡ true
  found_passes xs k x e there = ap p (sym (get_or_from_slice_get xs k x x there)) ∙ (position-Some p xs k x e).1

  pub none_found : (xs : List X) → position p xs ≡ None → find p xs ≡ None
  none_found xs e =
      by (nat_lt (position_or_len p xs) (length xs)) refl e
    where
      by : (b : Bool) → nat_lt (position_or_len p xs) (length xs) ≡ b → cond b (Some (position_or_len p xs)) None ≡ None → find p xs ≡ None
      by true q e = absurd cc
      by false q e = find_at p xs ∙ slice_get_past xs (position_or_len p xs) (ltb-false (position_or_len p xs) (length xs) q)

  pub position_or_len-le-length : (xs : List X) → position_or_len p xs ≤ length xs
  position_or_len-le-length [] = omega arith
  position_or_len-le-length (x ∷ xs) =
      by (p x) (position_or_len-le-length xs)
    where
      by : (b : Bool) → position_or_len p xs ≤ length xs → cond (not b) (1 + prefix_len (λ y. not (p y)) xs) 0 ≤ length (x ∷ xs)
      by true few = omega arith
      by false few = omega (arith, few)

  pub first_at : (xs : List X) (k : ℕ) → position p xs ≡ Some k → position_or_len p xs ≡ k
  first_at xs k e = (cond_some (nat_lt (position_or_len p xs) (length xs)) (position_or_len p xs) k e).1

  pub past_all : (xs : List X) → position p xs ≡ None → position_or_len p xs ≡ length xs
  past_all xs e =
      by (nat_lt (position_or_len p xs) (length xs)) refl e
    where
      by : (b : Bool) → nat_lt (position_or_len p xs) (length xs) ≡ b → cond b (Some (position_or_len p xs)) None ≡ None → position_or_len p xs ≡ length xs
      by true q e = absurd cc
      by false q e = omega (arith, ltb-false (position_or_len p xs) (length xs) q, position_or_len-le-length xs)

  -- one that stands there is found
  pub some_found : (xs : List X) (k : ℕ) (x : X) → slice_get xs k ≡ Some x → p x ≡ true → IsSome (find p xs)
  some_found [] k x e q = absurd cc
  some_found (y ∷ xs) zero x e q =
      let same : y ≡ x = cc in
      let yes : p y ≡ true = ap p same ∙ q in
      ap (λ (b : Bool). is_some (cond b (Some y) (find p xs))) yes
  some_found (y ∷ xs) (suc k) x e q =
      by (p y) (some_found xs k x e q)
    where
      by : (b : Bool) → IsSome (find p xs) → IsSome (cond b (Some y) (find p xs))
      by true later = refl
      by false later = later
