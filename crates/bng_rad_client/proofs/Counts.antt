-- Identifiers that are taken.
use Rattle.std.proofs.Common.{◌≡◌, ◌≢◌, ℕ, zero, suc, ◌+◌, ◌-◌, ◌%◌, ◌<◌, cond, List, [], ◌∷◌, length, Option, Some, None, refl, subst, ◌∙◌, arith}
use Rattle.std.specs.Prelude.{is_some}
use Rattle.std.proofs.lemmas.List.Sums.{sum_by-cons, count_by-le-length}
use Rattle.bng_rad_client.specs.declared.pending.Pending.{Pending}
use Rattle.bng_rad_client.specs.Table.{request_of, taken}

-- where each place has a request, as many are taken as there are places
pub all_taken : (places : List (Option Pending)) → ((i : ℕ) → i < length places → request_of places i ≢ None) → taken places ≡ length places
all_taken [] each = refl
all_taken (None ∷ places) each = absurd (each zero (omega arith) refl)
all_taken (Some r ∷ places) each =
    let rest = all_taken places (λ i below. each (suc i) (omega arith)) in
    let first = sum_by-cons (λ x. cond (is_some x) 1 0) (Some r) places in
    omega (arith, rest, first)

-- going round from any identifier comes to each
pub round : (places : List (Option Pending)) (last : ℕ) → length places ≡ 256 → last < 256 → ((k : ℕ) → k < 256 → request_of places ((last + 1 + k) % 256) ≢ None) → taken places ≡ 256
round places last size small each = all_taken places at ∙ size
  where
    at : (i : ℕ) → i < length places → request_of places i ≢ None
    at i below =
        let k = (i + 511 - last) % 256 in
        let e : (last + 1 + k) % 256 ≡ i = omega arith in
        subst (λ (n : ℕ). request_of places n ≢ None) e (each k (omega arith))

-- where one is free, fewer are taken than there are
pub one_free : (places : List (Option Pending)) (id : ℕ) → id < length places → request_of places id ≡ None → taken places < length places
one_free [] id below free = absurd (omega arith)
one_free (None ∷ places) zero below free =
    let rest = count_by-le-length is_some places in
    let first = sum_by-cons (λ x. cond (is_some x) 1 0) None places in
    omega (arith, rest, first)
one_free (Some r ∷ places) zero below free = absurd cc
one_free (None ∷ places) (suc id) below free =
    let rest = one_free places id (omega arith) free in
    let first = sum_by-cons (λ x. cond (is_some x) 1 0) None places in
    omega (arith, rest, first)
one_free (Some r ∷ places) (suc id) below free =
    let rest = one_free places id (omega arith) free in
    let first = sum_by-cons (λ x. cond (is_some x) 1 0) (Some r) places in
    omega (arith, rest, first)
