-- What lists of the standard library are found to have.
use Rattle.std.proofs.Common.{◌≡◌, ℕ, zero, suc, ◌-◌, get_or, drop, ◌+◌, ◌<◌, ◌≤◌, Bool, true, false, cond, ◌||◌, List, [], ◌∷◌, ◌++◌, Option, Some, None, refl, sym, ap, subst, ◌∙◌, length, map, filter, arith, ◌⊎◌, inl, inr}
use Rattle.std.specs.List.{find, slice_get, list_any}
use Rattle.std.specs.Option.{unwrap_or}
use Rattle.std.proofs.lemmas.List.{drop_more}
use Rattle.std.proofs.lemmas.Bool.{cases_eq}

-- one step of a search
step_true : {X : Type 0} (p : X → Bool) (x : X) (rest o : Option X) → p x ≡ true → cond (p x) (Some x) rest ≡ o → Some x ≡ o
step_true p x rest o e found = sym (ap (λ c. cond c (Some x) rest) e) ∙ found

step_false : {X : Type 0} (p : X → Bool) (x : X) (rest o : Option X) → p x ≡ false → cond (p x) (Some x) rest ≡ o → rest ≡ o
step_false p x rest o e found = sym (ap (λ c. cond c (Some x) rest) e) ∙ found

pub by_test : {C : Type 0} (b : Bool) → (b ≡ true → C) → (b ≡ false → C) → C
by_test true then_so else_so = then_so refl
by_test false then_so else_so = else_so refl

-- where nothing is found, the test fails at each place
pub find_none : {X : Type 0} (p : X → Bool) (xs : List X) (i : ℕ) (x : X) → find p xs ≡ None → slice_get xs i ≡ Some x → p x ≡ false
find_none p [] i x none at = absurd cc
find_none p (y ∷ xs) zero x none at =
    let same : y ≡ x = cc in
    by_test (p y) (λ e. let h : Some y ≡ None = step_true p y (find p xs) None e none in absurd cc) (λ e. subst (λ z. p z ≡ false) same e)
find_none p (y ∷ xs) (suc i) x none at =
    by_test (p y) (λ e. let h : Some y ≡ None = step_true p y (find p xs) None e none in absurd cc) (λ e. find_none p xs i x (step_false p y (find p xs) None e none) at)

-- a test that always fails finds nothing
pub find_nothing : {X : Type 0} (p : X → Bool) (xs : List X) → ((x : X) → p x ≡ false) → find p xs ≡ None
find_nothing p [] never = refl
find_nothing p (x ∷ xs) never = ap (λ c. cond c (Some x) (find p xs)) (never x) ∙ find_nothing p xs never

-- what is found passes the test
pub find_some : {X : Type 0} (p : X → Bool) (xs : List X) (x : X) → find p xs ≡ Some x → p x ≡ true
find_some p [] x found = absurd cc
find_some p (y ∷ xs) x found =
    by_test (p y) (λ e. let h : Some y ≡ Some x = step_true p y (find p xs) (Some x) e found in let same : y ≡ x = cc in subst (λ z. p z ≡ true) same e) (λ e. find_some p xs x (step_false p y (find p xs) (Some x) e found))

or_true : (b : Bool) → (b || true) ≡ true
or_true true = refl
or_true false = refl

-- a test that fails at each place fails throughout
pub any_none : {X : Type 0} (p : X → Bool) (xs : List X) → ((i : ℕ) (x : X) → slice_get xs i ≡ Some x → p x ≡ false) → list_any p xs ≡ false
any_none p [] none = refl
any_none p (x ∷ xs) none = ap (λ b. b || list_any p xs) (none 0 x refl) ∙ any_none p xs (λ i. none (suc i))

pub any_some : {X : Type 0} (p : X → Bool) (xs : List X) (i : ℕ) (x : X) → slice_get xs i ≡ Some x → p x ≡ true → list_any p xs ≡ true
any_some p [] i x at passes = absurd cc
any_some p (y ∷ xs) zero x at passes = let same : y ≡ x = cc in ap (λ z. p z || list_any p xs) same ∙ ap (λ b. b || list_any p xs) passes
any_some p (y ∷ xs) (suc i) x at passes = ap (λ b. p y || b) (any_some p xs i x at passes) ∙ or_true (p y)

-- a search goes on behind what fails the test, and ends where it passes
pub find_step : {X : Type 0} (p : X → Bool) (xs : List X) (i : ℕ) (d : X) → i < length xs → p (get_or xs i d) ≡ false → find p (drop i xs) ≡ find p (drop (i + 1) xs)
find_step p xs i d below fails = ap (find p) (drop_more xs i d below) ∙ ap (λ b. cond b (Some (get_or xs i d)) (find p (drop (i + 1) xs))) fails

pub find_here : {X : Type 0} (p : X → Bool) (xs : List X) (i : ℕ) (d : X) → i < length xs → p (get_or xs i d) ≡ true → find p (drop i xs) ≡ Some (get_or xs i d)
find_here p xs i d below passes = ap (find p) (drop_more xs i d below) ∙ ap (λ b. cond b (Some (get_or xs i d)) (find p (drop (i + 1) xs))) passes

pub get_at : {X : Type 0} (xs : List X) (i : ℕ) (d : X) → i < length xs → slice_get xs i ≡ Some (get_or xs i d)
get_at [] i d below = absurd (omega arith)
get_at (x ∷ xs) zero d below = refl
get_at (x ∷ xs) (suc i) d below = get_at xs i d (omega arith)

pub get_below : {X : Type 0} (xs : List X) (i : ℕ) (x : X) → slice_get xs i ≡ Some x → i < length xs
get_below [] i x at = absurd cc
get_below (y ∷ xs) zero x at = omega arith
get_below (y ∷ xs) (suc i) x at = omega (arith, get_below xs i x at)

-- what holds of the elements below a place
abbrev pub Below : {X : Type 0} → (ℕ → X → Type 0) → List X → ℕ → Type 0
Below {X} P xs i = (k : ℕ) (x : X) → k < i → slice_get xs k ≡ Some x → P k x

pub below_step : {X : Type 0} (P : ℕ → X → Type 0) (xs : List X) (i : ℕ) (d : X) → i < length xs → Below P xs i → P i (get_or xs i d) → Below P xs (i + 1)
below_step {X} P xs i d inside before here k x below at = elim (cases_eq k i) [
  | inl same ↦
      let there : slice_get xs i ≡ Some x = subst (λ n. slice_get xs n ≡ Some x) same at in
      let is : get_or xs i d ≡ x = (let both : Some (get_or xs i d) ≡ Some x = sym (get_at xs i d inside) ∙ there in cc) in
      subst (λ n. P n x) (sym same) (subst (P i) is here)
  | inr other ↦ before k x (omega arith) at
]

pub below_all : {X : Type 0} (P : ℕ → X → Type 0) (xs : List X) (i : ℕ) → length xs ≤ i → Below P xs i → (k : ℕ) (x : X) → slice_get xs k ≡ Some x → P k x
below_all P xs i all below k x at = below k x (omega (arith, get_below xs k x at)) at

-- an empty list more
pub nil_push : {X : Type 0} (xs : List (List X)) → ((i : ℕ) → unwrap_or (slice_get xs i) [] ≡ []) → (i : ℕ) → unwrap_or (slice_get (xs ++ [] ∷ []) i) [] ≡ []
nil_push [] all zero = refl
nil_push [] all (suc i) = refl
nil_push (x ∷ xs) all zero = all zero
nil_push (x ∷ xs) all (suc i) = nil_push xs (λ k. all (suc k)) i

-- a search that has come to a place where the test passes
pub found_place : {X : Type 0} (p : X → Bool) (xs ys : List X) (place : ℕ) (d : X) → ys ≡ xs → find p xs ≡ find p (drop place xs) → place < length ys → p (get_or ys place d) ≡ true → find p xs ≡ slice_get xs place
found_place {X} p xs ys place d same so_far below passes =
    let below' : place < length xs = subst (λ (zs : List X). place < length zs) same below in
    let passes' : p (get_or xs place d) ≡ true = subst (λ (zs : List X). p (get_or zs place d) ≡ true) same passes in
    so_far ∙ find_here p xs place d below' passes' ∙ sym (get_at xs place d below')
