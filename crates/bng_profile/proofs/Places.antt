-- Lists of names, one place at a time.
use Rattle.std.proofs.Common.{◌≡◌, ℕ, zero, suc, ◌<◌, Bool, false, cond, List, [], ◌∷◌, ◌++◌, Option, Some, None, map, take, length, get_or, slice_get, unwrap_or, ap, ◌∙◌, lt-ltb, le-ltb, arith}
use Rattle.std.specs.Prelude.{nat_lt, position}
use Rattle.std.specs.List.{position_or_len}
use Rattle.std.specs.Str.{bytes_eq}
use Rattle.std.proofs.lemmas.Bool.{false_from_ne_true}
use Rattle.std.proofs.lemmas.List.Sums.{position_or_len_is}
use Rattle.std.proofs.lemmas.Option.{get_or_from_slice_get, slice_get-get_or, slice_get_within}
use Rattle.std.proofs.lemmas.Slice.Eq.{bytes_eq-Decides}

module _ {A : Type 0} where
  pub some_same : (a b : A) → Some a ≡ Some b → a ≡ b
  some_same a b e = ap (λ z. unwrap_or z a) e

  pub take_more : (xs : List A) (i : ℕ) (a : A) → slice_get xs i ≡ Some a → take (suc i) xs ≡ take i xs ++ a ∷ []
  take_more [] i a e = absurd (cc)
  take_more (x ∷ xs) zero a e = ap (λ z. z ∷ []) (some_same x a e)
  take_more (x ∷ xs) (suc i) a e = ap (λ z. x ∷ z) (take_more xs i a e)

  pub at_map : {B : Type 0} (f : A → B) (xs : List A) (i : ℕ) (a : A) → slice_get xs i ≡ Some a → slice_get (map f xs) i ≡ Some (f a)
  at_map f [] i a e = absurd (cc)
  at_map f (x ∷ xs) zero a e = ap (λ z. Some (f z)) (some_same x a e)
  at_map f (x ∷ xs) (suc i) a e = at_map f xs i a e

-- a name that does not stand at a place is not that of the place
other_name : (names : List (List ℕ)) (name : List ℕ) (k : ℕ) → k < length names → ¬ (slice_get names k ≡ Some name) → bytes_eq (get_or names k []) name ≡ false
other_name names name k low other =
    let there : List ℕ = get_or names k [] in
    false_from_ne_true (bytes_eq there name) (λ e. other (slice_get-get_or names k [] low ∙ ap (λ (n : List ℕ). Some n) ((bytes_eq-Decides there name).0 e)))

-- a place of so many, or none
abbrev chosen : ℕ → Bool → Option ℕ
chosen k t = cond t (Some k) None

abbrev within : ℕ → ℕ → Option ℕ
within n k = chosen k (nat_lt k n)

-- the first place with a name
pub first_place : (names : List (List ℕ)) (name : List ℕ) (i : ℕ) → ((k : ℕ) → k < i → ¬ (slice_get names k ≡ Some name)) → slice_get names i ≡ Some name → position (λ n. bytes_eq n name) names ≡ Some i
first_place names name i before here =
    let low = slice_get_within names i name here in
    let at : position_or_len (λ n. bytes_eq n name) names ≡ i = position_or_len_is (λ n. bytes_eq n name) names i [] (omega arith)
    (λ k below. other_name names name k (omega arith) (before k below))
    (λ there. (bytes_eq-Decides (get_or names i []) name).1 (get_or_from_slice_get names i name [] here)) in
    ap (within (length names)) at ∙ ap (chosen i) (lt-ltb i (length names) low)

-- no place has the name
pub no_place : (names : List (List ℕ)) (name : List ℕ) → ((k : ℕ) → ¬ (slice_get names k ≡ Some name)) → position (λ n. bytes_eq n name) names ≡ None
no_place names name none =
    let n : ℕ = length names in
    let at : position_or_len (λ x. bytes_eq x name) names ≡ n = position_or_len_is (λ x. bytes_eq x name) names n [] (omega arith)
    (λ k below. other_name names name k below (none k))
    (λ there. absurd (omega arith)) in
    ap (within n) at ∙ ap (chosen n) (le-ltb n n (omega arith))
