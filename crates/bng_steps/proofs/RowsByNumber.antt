-- The row of a term among those of a shard, by the term's number.
use Rattle.std.proofs.Common.{◌≡◌, inl, inr, ℕ, zero, suc, ◌<◌, ◌==◌, false, cond, List, [], ◌∷◌, Option, Some, None, refl, ap, ◌∙◌, arith}
use Rattle.std.specs.Prelude.{find}
use Rattle.std.specs.List.{AllByRecursion}
use Rattle.std.proofs.Math.ListN.{get_or}
use Rattle.std.proofs.lemmas.Bool.{cases_eq, eq-eqb}
use Rattle.std.proofs.lemmas.Bool.Decides.{nat_tests}
use Rattle.bng_base.specs.declared.circuit.TermId.{TermId}
use Rattle.bng_engine.specs.Lists.{AnyOf}
use Rattle.bng_engine.specs.Views.{Row}
use Rattle.bng_steps.specs.declared.terms.TermRow.{TermRow}
use Rattle.bng_steps.specs.declared.session.Lease.{Lease}
use Rattle.bng_steps.specs.declared.session.Session.{Session}
use Rattle.bng_steps.specs.TermRows.{AreRising, HasSerial, IsPlaceOf, row_from, rows_in, tenures_in}
use Rattle.bng_steps.specs.State.{IsTermOf}
use Rattle.bng_steps.proofs.RowSums.{rises}

-- the row with a number
abbrev pub row_of : List Row → ℕ → Option Row
row_of rows serial = find (λ (r : Row). r.key.term.serial == serial) rows

differs : (a b : ℕ) → a < b → (a == b) ≡ false
differs a b l = grind (arith, nat_tests)

here : (serial : ℕ) (r : TermRow) (rs : List TermRow) → r.term.serial ≡ serial → row_of (rows_in (r ∷ rs)) serial ≡ Some (row_from r)
here serial r rs e = ap (λ b. cond b (Some (row_from r)) (row_of (rows_in rs) serial)) (eq-eqb _ _ e)

past : (serial : ℕ) (r : TermRow) (rs : List TermRow) → (r.term.serial == serial) ≡ false → row_of (rows_in (r ∷ rs)) serial ≡ row_of (rows_in rs) serial
past serial r rs e = ap (λ b. cond b (Some (row_from r)) (row_of (rows_in rs) serial)) e

-- it is the one that stands at its place
pub row_at_place : (serial : ℕ) (rs : List TermRow) (place : ℕ) (d : TermRow) → AreRising rs → IsPlaceOf serial rs place → row_of (rows_in rs) serial ≡ Some (row_from (get_or rs place d))
row_at_place serial [] place d rising is = absurd (let within = is.0 in omega (arith, within))
row_at_place serial (r ∷ rs) zero d rising is = here serial r rs (is.1 d)
row_at_place serial (r ∷ rs) (suc place) d rising is =
    let within = is.0 in
    let less = rises (r ∷ rs) 0 (suc place) d rising (omega arith) within in
    let at = is.1 d in
    past serial r rs (differs r.term.serial serial (omega (arith, less, at))) ∙ row_at_place serial rs place d rising.1 (omega (arith, within), is.1)

-- none has it
pub no_row : (serial : ℕ) (rs : List TermRow) → (AnyOf (HasSerial serial) rs → ⊥) → row_of (rows_in rs) serial ≡ None
no_row serial [] none = refl
no_row serial (r ∷ rs) none = elim (cases_eq r.term.serial serial) [
  | inl e ↦ absurd (none (inl e))
  | inr differ ↦ past serial r rs (not_same r.term.serial serial differ) ∙ no_row serial rs (λ later. none (inr later))
]
  where
    not_same : (a b : ℕ) → (a ≡ b → ⊥) → (a == b) ≡ false
    not_same a b d = grind (arith, nat_tests)

-- those after a row have higher numbers
above_row : (n : ℕ) (x : Session) (l : Lease) (rs : List TermRow) → AllByRecursion (λ (p : TermRow). n < p.term.serial) rs → AnyOf (IsTermOf x l) (tenures_in rs) → n < l.serial
above_row n x l [] all any = absurd any
above_row n x l (r ∷ rs) all (inl is) = let at = ap (λ (t : TermId). t.serial) is.term in let over = all.0 in omega (arith, at, over)
above_row n x l (r ∷ rs) all (inr later) = above_row n x l rs all.1 later

-- the row of a session's live term
pub row_of_lease : (x : Session) (l : Lease) (rs : List TermRow) → AreRising rs → AnyOf (IsTermOf x l) (tenures_in rs) → (r : Row) × (row_of (rows_in rs) l.serial ≡ Some r) × (r.key.term.session ≡ x.number)
row_of_lease x l [] rising any = absurd any
row_of_lease x l (r ∷ rs) rising (inl is) = (row_from r, here l.serial r rs (ap (λ (t : TermId). t.serial) is.term), ap (λ (t : TermId). t.session) is.term)
row_of_lease x l (r ∷ rs) rising (inr later) =
    let rest = row_of_lease x l rs rising.1 later in
    (rest.0, past l.serial r rs (differs r.term.serial l.serial (above_row r.term.serial x l rs rising.0 later)) ∙ rest.1, rest.2)
