-- Sums over lists and over their parts, and elements that differ in a number.
use Rattle.std.proofs.Common.{◌≡◌, ⊎_elim, inl, inr, ℕ, zero, suc, ◌+◌, ◌<◌, ◌≤◌, Bool, true, false, cond, List, [], ◌∷◌, ◌++◌, Some, refl, sym, ap, arith, eqb}
use Rattle.std.specs.Prelude.{slice_get, filter}
use Rattle.std.specs.List.{AllPairs, AllByRecursion, Contains, sum_by, range_with_len}
use Rattle.std.proofs.lemmas.Bool.{ne_eqb, eq-eqb, cases_eq}
use Rattle.std.proofs.lemmas.List.Elements.{recursion_from_All}
use Rattle.std.proofs.lemmas.List.Sums.{sum_by-cons}
use Rattle.bng_engine.specs.Lists.{AnyOf}
use Rattle.bng_engine.proofs.Adding.{sum_plus, sum_none}

-- parts of lists
pub all_left : {X : Type 0} (P : X → Type 0) (xs ys : List X) → AllByRecursion P (xs ++ ys) → AllByRecursion P xs
all_left P [] ys h = tt
all_left P (x ∷ xs) ys h = (h.0, all_left P xs ys h.1)

pub all_right : {X : Type 0} (P : X → Type 0) (xs ys : List X) → AllByRecursion P (xs ++ ys) → AllByRecursion P ys
all_right P [] ys h = h
all_right P (x ∷ xs) ys h = all_right P xs ys h.1

-- one of them is among them
pub contained : {X : Type 0} (xs : List X) (x : X) → AnyOf (λ y. y ≡ x) xs → Contains xs x
contained [] x h = absurd h
contained (y ∷ xs) x (inl e) = (0, omega arith, e)
contained (y ∷ xs) x (inr h) = let rest = contained xs x h in (suc rest.0, omega (arith, rest.1), rest.2)

-- no two elements have the same number
abbrev pub Apart : {X : Type 0} → (X → ℕ) → List X → Type 0
Apart f [] = Unit {0}
Apart f (x ∷ xs) = AllByRecursion (λ y. f y ≡ f x → ⊥) xs × Apart f xs

pub apart_of : {X : Type 0} (f : X → ℕ) (xs : List X) → AllPairs (λ a b. f a ≡ f b → ⊥) xs → Apart f xs
apart_of f [] h = tt
apart_of f (x ∷ xs) h = (
  recursion_from_All (λ y. f y ≡ f x → ⊥) xs (λ k d lt e. h zero (suc k) d (omega arith) (omega (arith, lt)) (sym e)),
  apart_of f xs (λ i j d lt within. h (suc i) (suc j) d (omega (arith, lt)) (omega (arith, within))),
)

-- where each has what is asked of it at its place
pub all_by_place : {X : Type 0} (P : X → Type 0) (xs : List X) → ((i : ℕ) (x : X) → slice_get xs i ≡ Some x → P x) → AllByRecursion P xs
all_by_place P [] h = tt
all_by_place P (x ∷ xs) h = (h zero x refl, all_by_place P xs (λ i y e. h (suc i) y e))

-- The parts by a number, each for one of these numbers, are the whole --------------------------------------------------

in_cond : {X : Type 0} (h : X → ℕ) (b : Bool) (x : X) (xs : List X) → sum_by h (cond b (x ∷ xs) xs) ≡ cond b (h x) 0 + sum_by h xs
in_cond h true x xs = sum_by-cons h x xs
in_cond h false x xs = omega arith

not_here : (k i v : ℕ) → (k ≡ i → ⊥) → cond (eqb k i) v 0 ≡ 0
not_here k i v ne = ap (λ (b : Bool). cond b v 0) (ne_eqb k i ne)

here : (k i v : ℕ) → k ≡ i → cond (eqb k i) v 0 ≡ v
here k i v e = ap (λ (b : Bool). cond b v 0) (eq-eqb k i e)

past : (k n m v : ℕ) → k < n → sum_by (λ i. cond (eqb k i) v 0) (range_with_len n m) ≡ 0
past k n zero v lt = refl
past k n (suc m) v lt =
    omega (arith, sum_by-cons (λ (i : ℕ). cond (eqb k i) v 0) n (range_with_len (n + 1) m), not_here k n v (λ e. omega (arith, e, lt)), past k (n + 1) m v (omega (arith, lt)))

one_place : (k n m v : ℕ) → n ≤ k → k < n + m → sum_by (λ i. cond (eqb k i) v 0) (range_with_len n m) ≡ v
one_place k n zero v low high = absurd (omega (arith, low, high))
one_place k n (suc m) v low high =
    let parts = sum_by-cons (λ (i : ℕ). cond (eqb k i) v 0) n (range_with_len (n + 1) m) in
    ⊎_elim
    (λ (e : k ≡ n). omega (arith, parts, here k n v e, past k (n + 1) m v (omega (arith, e))))
    (λ (ne : k ≡ n → ⊥). omega (arith, parts, not_here k n v ne, one_place k (n + 1) m v (above k n low ne) (omega (arith, high))))
    (cases_eq k n)
  where
    above : (k n : ℕ) → n ≤ k → (k ≡ n → ⊥) → n + 1 ≤ k
    above k n low ne = omega arith

pub record IsWithin (n m k : ℕ) : Type 0 where
  pub low : n ≤ k
  pub high : k < n + m

pub sum_parts : {X : Type 0} (f : X → ℕ) (h : X → ℕ) (n m : ℕ) (xs : List X) → AllByRecursion (λ x. IsWithin n m (f x)) xs → sum_by (λ i. sum_by h (filter (λ x. eqb (f x) i) xs)) (range_with_len n m) ≡ sum_by h xs
sum_parts f h n m [] within = sum_none (λ (i : ℕ). 0) (λ i. refl) (range_with_len n m)
sum_parts {X} f h n m (x ∷ xs) within =
    let rest = λ (i : ℕ). sum_by h (filter (λ (y : X). eqb (f y) i) xs) in
    omega (
      arith,
      sum_plus (λ (i : ℕ). cond (eqb (f x) i) (h x) 0) rest (λ (i : ℕ). sum_by h (filter (λ (y : X). eqb (f y) i) (x ∷ xs))) (λ i. in_cond h (eqb (f x) i) x (filter (λ (y : X). eqb (f y) i) xs)) (range_with_len n m),
      one_place (f x) n m (h x) within.0.low within.0.high,
      sum_parts f h n m xs within.1,
      sum_by-cons h x xs,
    )
