-- A term is under another profile: its row says so, and all else stands as before.
use Rattle.std.proofs.Common.{◌≡◌, ℕ, zero, suc, ◌<◌, Bool, true, false, cond, List, [], ◌∷◌, length, map, count_by, inl, inr, refl, sym, ap, subst, ◌∙◌, arith, ◌==◌}
use Rattle.std.specs.Prelude.{◌&&◌, not}
use Rattle.std.specs.List.{AllByRecursion}
use Rattle.std.proofs.Math.ListN.{get_or, set}
use Rattle.std.proofs.lemmas.Bool.{eq-eqb, ne_eqb}
use Rattle.std.proofs.lemmas.List.Sums.{sum_by-cons}
use Rattle.bng_engine.specs.Lists.{AnyOf, one_if}
use Rattle.bng_engine.specs.Views.{Row}
use Rattle.bng_steps.specs.declared.terms.TermRow.{TermRow}
use Rattle.bng_steps.specs.Changes.{recast_by}
use Rattle.bng_steps.specs.TermRows.{AreRising, HasSerial, IsPlaceOf, has_ended, recast, row_from, row_recast_by, rows_in, tenure_in, tenures_in}
use Rattle.bng_steps.specs.Tenures.{Tenure}

-- the row of another number is as it was
other_row : (serial place : ℕ) (r : TermRow) → (r.term.serial ≡ serial → ⊥) → row_recast_by serial place r ≡ r
other_row serial place r other = ap (λ (b : Bool). cond b (recast place r) r) (ne_eqb r.term.serial serial other)

the_row : (serial place : ℕ) (r : TermRow) → r.term.serial ≡ serial → row_recast_by serial place r ≡ recast place r
the_row serial place r is = ap (λ (b : Bool). cond b (recast place r) r) (eq-eqb r.term.serial serial is)

above_stay : (serial place : ℕ) (rs : List TermRow) → AllByRecursion (λ (r : TermRow). serial < r.term.serial) rs → map (row_recast_by serial place) rs ≡ rs
above_stay serial place [] h = refl
above_stay serial place (r ∷ rs) h =
    ap (λ (x : TermRow). x ∷ map (row_recast_by serial place) rs) (other_row serial place r (λ e. omega (arith, e, h.0))) ∙ ap (λ (xs : List TermRow). r ∷ xs) (above_stay serial place rs h.1)

pub none_recast : (serial place : ℕ) (rs : List TermRow) → (AnyOf (HasSerial serial) rs → ⊥) → rs ≡ map (row_recast_by serial place) rs
none_recast serial place [] none = refl
none_recast serial place (r ∷ rs) none =
    ap (λ (xs : List TermRow). r ∷ xs) (none_recast serial place rs (λ any. none (inr any))) ∙ ap (λ (x : TermRow). x ∷ map (row_recast_by serial place) rs) (sym (other_row serial place r (λ e. none (inl e))))

all_get : (n : ℕ) (rs : List TermRow) (j : ℕ) (d : TermRow) → AllByRecursion (λ (r : TermRow). n < r.term.serial) rs → j < length rs → n < (get_or rs j d).term.serial
all_get n [] j d h within = absurd (omega (arith, within))
all_get n (r ∷ rs) zero d h within = h.0
all_get n (r ∷ rs) (suc j) d h within = all_get n rs j d h.1 (omega (arith, within))

pub one_recast : (serial place : ℕ) (rs : List TermRow) (i : ℕ) (d : TermRow) → AreRising rs → IsPlaceOf serial rs i → set rs i (recast place (get_or rs i d)) ≡ map (row_recast_by serial place) rs
one_recast serial place [] i d rising is = absurd (omega (arith, is.0))
one_recast serial place (r ∷ rs) zero d rising is =
    let same : r.term.serial ≡ serial = is.1 d in
    ap (λ (xs : List TermRow). recast place r ∷ xs) (sym (above_stay serial place rs (subst (λ (n : ℕ). AllByRecursion (λ (q : TermRow). n < q.term.serial) rs) same rising.0)))
    ∙ ap (λ (x : TermRow). x ∷ map (row_recast_by serial place) rs) (sym (the_row serial place r same))
one_recast serial place (r ∷ rs) (suc i) d rising is =
    ap (λ (xs : List TermRow). r ∷ xs) (one_recast serial place rs i d rising.1 (omega (arith, is.0), is.1))
    ∙ ap (λ (x : TermRow). x ∷ map (row_recast_by serial place) rs) (sym (other_row serial place r (λ e. omega (arith, e, is.1 d, all_get r.term.serial rs i d rising.0 (omega (arith, is.0))))))

-- What is seen of the rows -------------------------------------------------------------------------------------------------

one_tenure : (serial place : ℕ) (r : TermRow) → tenure_in (row_recast_by serial place r) ≡ recast_by serial place (tenure_in r)
one_tenure serial place r =
    elim (r.term.serial == serial) as (λ b. tenure_in (cond b (recast place r) r) ≡ cond (b && not (has_ended r)) (record (tenure_in r) { profile = place }) (tenure_in r)) [
      | true ↦ live (has_ended r)
      | false ↦ refl
    ]
  where
    live : (over : Bool) → tenure_in (cond over r (record r { profile = place })) ≡ cond (not over) (record (tenure_in r) { profile = place }) (tenure_in r)
    live true = refl
    live false = refl

one_row : (serial place : ℕ) (r : TermRow) → row_from (row_recast_by serial place r) ≡ row_from r
one_row serial place r =
    elim (r.term.serial == serial) as (λ b. row_from (cond b (recast place r) r) ≡ row_from r) [
      | true ↦ live (has_ended r)
      | false ↦ refl
    ]
  where
    live : (over : Bool) → row_from (cond over r (record r { profile = place })) ≡ row_from r
    live true = refl
    live false = refl

one_over : (serial place : ℕ) (r : TermRow) → has_ended (row_recast_by serial place r) ≡ has_ended r
one_over serial place r =
    elim (r.term.serial == serial) as (λ b. has_ended (cond b (recast place r) r) ≡ has_ended r) [
      | true ↦ live (has_ended r)
      | false ↦ refl
    ]
  where
    live : (over : Bool) → has_ended (cond over r (record r { profile = place })) ≡ has_ended r
    live true = refl
    live false = refl

pub recast_tenures : (serial place : ℕ) (rs : List TermRow) → tenures_in (map (row_recast_by serial place) rs) ≡ map (recast_by serial place) (tenures_in rs)
recast_tenures serial place [] = refl
recast_tenures serial place (r ∷ rs) =
    ap (λ (t : Tenure). t ∷ tenures_in (map (row_recast_by serial place) rs)) (one_tenure serial place r) ∙ ap (λ (ts : List Tenure). recast_by serial place (tenure_in r) ∷ ts) (recast_tenures serial place rs)

-- their keys and what they carried stay
pub recast_rows : (serial place : ℕ) (rs : List TermRow) → rows_in (map (row_recast_by serial place) rs) ≡ rows_in rs
recast_rows serial place [] = refl
recast_rows serial place (r ∷ rs) = ap (λ (x : Row). x ∷ rows_in (map (row_recast_by serial place) rs)) (one_row serial place r) ∙ ap (λ (xs : List Row). row_from r ∷ xs) (recast_rows serial place rs)

-- and as many have ended
pub recast_over : (serial place : ℕ) (rs : List TermRow) → count_by has_ended (map (row_recast_by serial place) rs) ≡ count_by has_ended rs
recast_over serial place [] = refl
recast_over serial place (r ∷ rs) =
    let same : one_if (has_ended (row_recast_by serial place r)) ≡ one_if (has_ended r) = ap one_if (one_over serial place r) in
    omega (arith, same, sum_by-cons (λ (x : TermRow). one_if (has_ended x)) (row_recast_by serial place r) (map (row_recast_by serial place) rs), sum_by-cons (λ (x : TermRow). one_if (has_ended x)) r rs, recast_over serial place rs)
