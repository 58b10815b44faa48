-- Places of requests of which one is written.
use Rattle.std.proofs.Common.{◌≡◌, ◌⊎◌, inl, inr, ℕ, zero, suc, ◌+◌, ◌<◌, Bool, true, false, cond, List, [], ◌∷◌, length, get_or, set, Option, Some, None, refl, sym, ap, ◌∙◌, arith, ⊎_elim}
use Rattle.std.specs.Prelude.{count_by, replicate}
use Rattle.std.proofs.lemmas.List.{get_or_past}
use Rattle.std.proofs.lemmas.List.Sums.{sum_by-set, sum_by-cons}
use Rattle.std.proofs.lemmas.Bool.{cases_lt}
use Rattle.bng_rad_client.specs.declared.pending.Pending.{Pending}
use Rattle.bng_rad_client.specs.Table.{request_of}

-- what stands at a place is what was written there, or what was there
pub written : {A : Type 0} → (l : List A) (i j : ℕ) (x d : A) → ((j ≡ i) × (get_or (set l i x) j d ≡ x)) ⊎ (get_or (set l i x) j d ≡ get_or l j d)
written [] i j x d = inr refl
written (y ∷ l) zero zero x d = inl (refl, refl)
written (y ∷ l) zero (suc j) x d = inr refl
written (y ∷ l) (suc i) zero x d = inr refl
written (y ∷ l) (suc i) (suc j) x d = ⊎_elim (λ here. inl (ap suc here.0, here.1)) (λ other. inr other) (written l i j x d)

-- a place that is emptied is empty
pub emptied : (places : List (Option Pending)) (i : ℕ) → request_of (set places i None) i ≡ None
emptied [] i = refl
emptied (y ∷ l) zero = refl
emptied (y ∷ l) (suc i) = emptied l i

-- a place with a request is one of the places
pub within : (places : List (Option Pending)) (i : ℕ) (r : Pending) → request_of places i ≡ Some r → i < length places
within places i r is = ⊎_elim (λ below. below) (λ past. absurd (let both : None ≡ Some r = sym (get_or_past places i None past) ∙ is in cc)) (cases_lt i (length places))

pub no_request : (n : ℕ) (j : ℕ) → request_of (replicate n None) j ≡ None
no_request zero j = refl
no_request (suc n) zero = refl
no_request (suc n) (suc j) = no_request n j

abbrev counted : Bool → ℕ
counted b = cond b 1 0

-- one fewer is counted where a place that counted counts no longer
pub count_less : (f : Option Pending → Bool) (places : List (Option Pending)) (i : ℕ) (x : Option Pending) → i < length places → f (request_of places i) ≡ true → f x ≡ false
    → count_by f (set places i x) + 1 ≡ count_by f places
count_less f places i x below counts lost =
    let sums = sum_by-set (λ p. counted (f p)) places i x None below in
    omega (arith, sums, ap counted counts, ap counted lost)

-- nothing is counted where no place counts
pub count_none : (f : Option Pending → Bool) (places : List (Option Pending)) → ((i : ℕ) → i < length places → f (request_of places i) ≡ false) → count_by f places ≡ 0
count_none f [] each = refl
count_none f (p ∷ places) each =
    let rest = count_none f places (λ i below. each (suc i) (omega arith)) in
    let first = sum_by-cons (λ x. counted (f x)) p places in
    omega (arith, rest, first, ap counted (each zero (omega arith)))
