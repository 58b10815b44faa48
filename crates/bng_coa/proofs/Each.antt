-- What is true of each element of a list.
use Rattle.std.proofs.Common.{◌≡◌, ℕ, zero, suc, Bool, true, false, cond, List, [], ◌∷◌, ◌++◌, refl, Some, subst}
use Rattle.std.specs.Prelude.{filter, remove, slice_get, slice_set}
use Rattle.std.specs.List.{AllByRecursion}

module _ {X : Type 0} (P : X → Type 0) where
  filtered_cons : (b : Bool) (x : X) (xs : List X) → P x → AllByRecursion P xs → AllByRecursion P (cond b (x ∷ xs) xs)
  filtered_cons true x xs here rest = (here, rest)
  filtered_cons false x xs here rest = rest

  pub filtered : (p : X → Bool) (xs : List X) → AllByRecursion P xs → AllByRecursion P (filter p xs)
  filtered p [] all = all
  filtered p (x ∷ xs) all = filtered_cons (p x) x (filter p xs) all.0 (filtered p xs all.1)

  pub appended : (xs ys : List X) → AllByRecursion P xs → AllByRecursion P ys → AllByRecursion P (xs ++ ys)
  appended [] ys all more = more
  appended (x ∷ xs) ys all more = (all.0, appended xs ys all.1 more)

  pub removed : (xs : List X) (i : ℕ) → AllByRecursion P xs → AllByRecursion P (remove xs i)
  removed [] zero all = all
  removed [] (suc i) all = all
  removed (x ∷ xs) zero all = all.1
  removed (x ∷ xs) (suc i) all = (all.0, removed xs i all.1)

  pub replaced : (xs : List X) (i : ℕ) (y : X) → AllByRecursion P xs → P y → AllByRecursion P (slice_set xs i y)
  replaced [] zero y all here = all
  replaced [] (suc i) y all here = all
  replaced (x ∷ xs) zero y all here = (here, all.1)
  replaced (x ∷ xs) (suc i) y all here = (all.0, replaced xs i y all.1 here)

  pub at : (xs : List X) (i : ℕ) (x : X) → slice_get xs i ≡ Some x → AllByRecursion P xs → P x
  at [] i x is all = absurd cc
  at (y ∷ xs) zero x is all = subst P (let e : y ≡ x = cc in e) all.0
  at (y ∷ xs) (suc i) x is all = at xs i x is all.1

  -- what each element has, by its place
  pub by_places : (xs : List X) → ((i : ℕ) (x : X) → slice_get xs i ≡ Some x → P x) → AllByRecursion P xs
  by_places [] each = tt
  by_places (x ∷ xs) each = (each zero x refl, by_places xs (λ i y is. each (suc i) y is))
