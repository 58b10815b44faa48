-- A term ends: its row says so, and all else stands as before.
use Rattle.std.proofs.Common.{◌≡◌, ℕ, zero, suc, ◌<◌, Bool, true, false, cond, List, [], ◌∷◌, length, map, None, Some, Option, inl, inr, refl, sym, ap, subst, ◌∙◌, arith, ◌==◌}
use Rattle.std.specs.Prelude.{◌&&◌, not}
use Rattle.std.specs.List.{AllByRecursion}
use Rattle.std.proofs.Math.ListN.{get_or, set}
use Rattle.std.proofs.lemmas.Bool.{eq-eqb, ne_eqb}
use Rattle.bng_engine.specs.Calls.{SayTheSame}
use Rattle.bng_engine.specs.Lists.{AnyOf}
use Rattle.bng_engine.specs.Views.{Row, rows_where}
use Rattle.bng_steps.specs.declared.session.Lease.{Lease}
use Rattle.bng_steps.specs.declared.terms.TermRow.{TermRow}
use Rattle.bng_steps.specs.TermRows.{AreRising, HasSerial, IsPlaceOf, closed_rows, ended_by, has_ended, row_from, row_over_by, rows_in, tenure_in, tenures_in}
use Rattle.bng_steps.specs.Tenures.{Tenure, closed, is_over, over_by}

-- the row of another number is as it was
other_row : (serial cause : ℕ) (r : TermRow) → (r.term.serial ≡ serial → ⊥) → row_over_by serial cause r ≡ r
other_row serial cause r other = ap (λ (b : Bool). cond b (ended_by cause r) r) (ne_eqb r.term.serial serial other)

the_row : (serial cause : ℕ) (r : TermRow) → r.term.serial ≡ serial → row_over_by serial cause r ≡ ended_by cause r
the_row serial cause r is = ap (λ (b : Bool). cond b (ended_by cause r) r) (eq-eqb r.term.serial serial is)

above_stay : (serial cause : ℕ) (rs : List TermRow) → AllByRecursion (λ (r : TermRow). serial < r.term.serial) rs → map (row_over_by serial cause) rs ≡ rs
above_stay serial cause [] h = refl
above_stay serial cause (r ∷ rs) h =
    ap (λ (x : TermRow). x ∷ map (row_over_by serial cause) rs) (other_row serial cause r (λ e. omega (arith, e, h.0))) ∙ ap (λ (xs : List TermRow). r ∷ xs) (above_stay serial cause rs h.1)

pub none_closed : (serial cause : ℕ) (rs : List TermRow) → (AnyOf (HasSerial serial) rs → ⊥) → rs ≡ map (row_over_by serial cause) rs
none_closed serial cause [] none = refl
none_closed serial cause (r ∷ rs) none =
    ap (λ (xs : List TermRow). r ∷ xs) (none_closed serial cause rs (λ any. none (inr any))) ∙ ap (λ (x : TermRow). x ∷ map (row_over_by serial cause) rs) (sym (other_row serial cause r (λ e. none (inl e))))

all_get : (n : ℕ) (rs : List TermRow) (j : ℕ) (d : TermRow) → AllByRecursion (λ (r : TermRow). n < r.term.serial) rs → j < length rs → n < (get_or rs j d).term.serial
all_get n [] j d h within = absurd (omega (arith, within))
all_get n (r ∷ rs) zero d h within = h.0
all_get n (r ∷ rs) (suc j) d h within = all_get n rs j d h.1 (omega (arith, within))

pub one_closed : (serial cause : ℕ) (rs : List TermRow) (place : ℕ) (d : TermRow) → AreRising rs → IsPlaceOf serial rs place → set rs place (ended_by cause (get_or rs place d)) ≡ map (row_over_by serial cause) rs
one_closed serial cause [] place d rising is = absurd (omega (arith, is.0))
one_closed serial cause (r ∷ rs) zero d rising is =
    let same : r.term.serial ≡ serial = is.1 d in
    ap (λ (xs : List TermRow). ended_by cause r ∷ xs) (sym (above_stay serial cause rs (subst (λ (n : ℕ). AllByRecursion (λ (q : TermRow). n < q.term.serial) rs) same rising.0)))
    ∙ ap (λ (x : TermRow). x ∷ map (row_over_by serial cause) rs) (sym (the_row serial cause r same))
one_closed serial cause (r ∷ rs) (suc place) d rising is =
    ap (λ (xs : List TermRow). r ∷ xs) (one_closed serial cause rs place d rising.1 (omega (arith, is.0), is.1))
    ∙ ap (λ (x : TermRow). x ∷ map (row_over_by serial cause) rs) (sym (other_row serial cause r (λ e. omega (arith, e, is.1 d, all_get r.term.serial rs place d rising.0 (omega (arith, is.0))))))

-- What is seen of the rows -------------------------------------------------------------------------------------------------

one_tenure : (serial cause : ℕ) (r : TermRow) → tenure_in (row_over_by serial cause r) ≡ over_by serial cause (tenure_in r)
one_tenure serial cause r =
    elim (r.term.serial == serial) as (λ b. tenure_in (cond b (ended_by cause r) r) ≡ cond (b && not (has_ended r)) (record (tenure_in r) { cause = Some cause }) (tenure_in r)) [
      | true ↦ ended (has_ended r)
      | false ↦ refl
    ]
  where
    ended : (over : Bool) → tenure_in (cond over r (record r { cause = Some cause })) ≡ cond (not over) (record (tenure_in r) { cause = Some cause }) (tenure_in r)
    ended true = refl
    ended false = refl

one_row : (serial cause : ℕ) (r : TermRow) → row_from (row_over_by serial cause r) ≡ row_from r
one_row serial cause r =
    elim (r.term.serial == serial) as (λ b. row_from (cond b (ended_by cause r) r) ≡ row_from r) [
      | true ↦ ended (has_ended r)
      | false ↦ refl
    ]
  where
    ended : (over : Bool) → row_from (cond over r (record r { cause = Some cause })) ≡ row_from r
    ended true = refl
    ended false = refl

over_tenures : (serial cause : ℕ) (rs : List TermRow) → tenures_in (map (row_over_by serial cause) rs) ≡ map (over_by serial cause) (tenures_in rs)
over_tenures serial cause [] = refl
over_tenures serial cause (r ∷ rs) =
    ap (λ (t : Tenure). t ∷ tenures_in (map (row_over_by serial cause) rs)) (one_tenure serial cause r) ∙ ap (λ (ts : List Tenure). over_by serial cause (tenure_in r) ∷ ts) (over_tenures serial cause rs)

pub over_rows : (serial cause : ℕ) (rs : List TermRow) → rows_in (map (row_over_by serial cause) rs) ≡ rows_in rs
over_rows serial cause [] = refl
over_rows serial cause (r ∷ rs) = ap (λ (x : Row). x ∷ rows_in (map (row_over_by serial cause) rs)) (one_row serial cause r) ∙ ap (λ (xs : List Row). row_from r ∷ xs) (over_rows serial cause rs)

-- the terms are closed
pub closed_tenures : (lease : Option Lease) (cause : Option ℕ) (rs : List TermRow) → tenures_in (closed_rows lease cause rs) ≡ closed lease cause (tenures_in rs)
closed_tenures None cause rs = refl
closed_tenures (Some l) None rs = refl
closed_tenures (Some l) (Some cause) rs = over_tenures l.serial cause rs

-- their keys and what they carried stay
pub closed_sums : (lease : Option Lease) (cause : Option ℕ) (rs : List TermRow) → rows_in (closed_rows lease cause rs) ≡ rows_in rs
closed_sums None cause rs = refl
closed_sums (Some l) None rs = refl
closed_sums (Some l) (Some cause) rs = over_rows l.serial cause rs

-- so the sums over them say the same
pub closed_same : (lease : Option Lease) (cause : Option ℕ) (rows : List TermRow) → SayTheSame (rows_in rows) (rows_in (closed_rows lease cause rows))
closed_same lease cause rows q pick input = ap (λ (rs : List Row). rows_where q pick input rs) (closed_sums lease cause rows)

-- a term with another number is as it was
pub one_over : (serial cause : ℕ) (t : Tenure) → (t.term.serial ≡ serial → ⊥) → over_by serial cause t ≡ t
one_over serial cause t other = ap (λ (b : Bool). cond (b && not (is_over t)) (record t { cause = Some cause }) t) (ne_eqb t.term.serial serial other)

-- and what held of it still does
any_over : (P : Tenure → Type 0) (serial cause : ℕ) (ts : List Tenure) → ((t : Tenure) → P t → t.term.serial ≡ serial → ⊥) → AnyOf P ts → AnyOf P (map (over_by serial cause) ts)
any_over P serial cause [] other any = absurd any
any_over P serial cause (t ∷ ts) other (inl is) = inl (subst P (sym (one_over serial cause t (other t is))) is)
any_over P serial cause (t ∷ ts) other (inr later) = inr (any_over P serial cause ts other later)

pub any_closed : (P : Tenure → Type 0) (lease : Option Lease) (cause : Option ℕ) (ts : List Tenure) → ((l : Lease) → lease ≡ Some l → (t : Tenure) → P t → t.term.serial ≡ l.serial → ⊥) → AnyOf P ts → AnyOf P (closed lease cause ts)
any_closed P None cause ts other any = any
any_closed P (Some l) None ts other any = any
any_closed P (Some l) (Some cause) ts other any = any_over P l.serial cause ts (other l refl) any
