-- The terms of circuits by the session numbers of their shard.
use Rattle.std.proofs.Common.{◌≡◌, ℕ, suc, ◌+◌, ◌<◌, ◌≤◌, List, [], ◌∷◌, ◌++◌, map, refl, sym, ap, subst, ◌∙◌, append_assoc, arith}
use Rattle.std.specs.Prelude.{count_by}
use Rattle.std.specs.List.{AllByRecursion, flat_map, range_with_len}
use Rattle.std.proofs.lemmas.List.{map-append}
use Rattle.std.proofs.lemmas.List.Concat.{flat_map-cons}
use Rattle.bng_base.specs.declared.settings.Static.{Static}
use Rattle.bng_engine.specs.Quantities.{empty_book}
use Rattle.std.proofs.lemmas.List.Sums.{sum_by-cons}
use Rattle.bng_engine.specs.Lists.{one_if}
use Rattle.bng_engine.specs.Terms.{Key, keys}
use Rattle.bng_engine.specs.Views.{Row, new_row}
use Rattle.bng_steps.specs.declared.terms.TermRow.{TermRow}
use Rattle.bng_steps.specs.Opening.{circuit_at, tenure_from, tenures_after}
use Rattle.bng_steps.specs.Protocol.{key_in, term_in}
use Rattle.bng_steps.specs.TermRows.{AreRising, has_ended, row_from, rows_in, tenure_in, tenures_in}
use Rattle.bng_steps.specs.Tenures.{Tenure, is_over}
use Rattle.bng_steps.proofs.RowSums.{KeysRise, rows_rise}
use Rattle.bng_steps.proofs.SameKeys.{keys_of_tenures, over_count}

-- the circuits of so many session numbers from this one on
abbrev pub circuits_from : List Static → ℕ → ℕ → List Static
circuits_from circuits n k = flat_map (circuit_at circuits) (range_with_len n k)

next : (circuits found : List Static) (n k k' : ℕ) → k ≡ suc k' → circuit_at circuits n ≡ found → circuits_from circuits n k ≡ found ++ circuits_from circuits (n + 1) k'
next circuits found n k k' e at =
    ap (circuits_from circuits n) e ∙ flat_map-cons (circuit_at circuits) n (range_with_len (n + 1) k') ∙ ap (λ (cs : List Static). cs ++ circuits_from circuits (n + 1) k') at

-- a number that no circuit has
pub none_next : (now serial : ℕ) (circuits : List Static) (n k k' : ℕ) (rows : List TermRow) (all : List Tenure) → k ≡ suc k' → circuit_at circuits n ≡ [] → tenures_in rows ++ tenures_after now serial (circuits_from circuits n k) ≡ all
    → tenures_in rows ++ tenures_after now serial (circuits_from circuits (n + 1) k') ≡ all
none_next now serial circuits n k k' rows all e at so_far = ap (λ (cs : List Static). tenures_in rows ++ tenures_after now serial cs) (sym (next circuits [] n k k' e at)) ∙ so_far

-- and one that a circuit has
pub one_next : (now serial : ℕ) (circuits : List Static) (n k k' : ℕ) (rows : List TermRow) (all : List Tenure) (c : Static) (r : TermRow) → k ≡ suc k' → circuit_at circuits n ≡ c ∷ [] → tenure_in r ≡ tenure_from now c (serial + 1)
    → tenures_in rows ++ tenures_after now serial (circuits_from circuits n k) ≡ all → tenures_in (rows ++ r ∷ []) ++ tenures_after now (serial + 1) (circuits_from circuits (n + 1) k') ≡ all
one_next now serial circuits n k k' rows all c r e at is so_far =
    let rest = tenures_after now (serial + 1) (circuits_from circuits (n + 1) k') in
    ap (λ (ts : List Tenure). ts ++ rest) (map-append tenure_in rows (r ∷ []))
    ∙ append_assoc (tenures_in rows) (tenure_in r ∷ []) rest
    ∙ ap (λ (t : Tenure). tenures_in rows ++ t ∷ rest) is
    ∙ ap (λ (cs : List Static). tenures_in rows ++ tenures_after now serial cs) (sym (next circuits (c ∷ []) n k k' e at))
    ∙ so_far

-- nothing was carried for a term that begins
abbrev pub AreNew : List TermRow → Type 0
AreNew rows = AllByRecursion (λ (r : TermRow). r.carried ≡ empty_book) rows

pub new_more : (rows : List TermRow) (r : TermRow) → AreNew rows → r.carried ≡ empty_book → AreNew (rows ++ r ∷ [])
new_more [] r h is = (is, tt)
new_more (q ∷ rows) r h is = (h.0, new_more rows r h.1 is)

pub new_rows : (rows : List TermRow) → AreNew rows → rows_in rows ≡ map new_row (keys (map term_in (tenures_in rows)))
new_rows [] h = refl
new_rows (r ∷ rows) h =
    ap (λ b. let row : Row = record { key = (row_from r).key; carried = b } in row ∷ rows_in rows) h.0
    ∙ ap (λ (rs : List Row). new_row (row_from r).key ∷ rs) (new_rows rows h.1)

-- Their numbers rise, and none has ended --------------------------------------------------------------------------------------

above : (now n m : ℕ) (cs : List Static) → n ≤ m → AllByRecursion (λ (k : Key). n < k.term.serial) (map key_in (tenures_after now m cs))
above now n m [] le = tt
above now n m (c ∷ cs) le = (omega (arith, le), above now n (m + 1) cs (omega (arith, le)))

rise : (now n : ℕ) (cs : List Static) → KeysRise (map key_in (tenures_after now n cs))
rise now n [] = tt
rise now n (c ∷ cs) = (above now (n + 1) (n + 1) cs (omega arith), rise now (n + 1) cs)

pub circuits_rise : (now n : ℕ) (cs : List Static) (rows : List TermRow) → tenures_in rows ≡ tenures_after now n cs → AreRising rows
circuits_rise now n cs rows e = rows_rise rows (subst KeysRise (sym (keys_of_tenures rows ∙ ap (λ (ts : List Tenure). map key_in ts) e)) (rise now n cs))

all_live : (now n : ℕ) (cs : List Static) → count_by is_over (tenures_after now n cs) ≡ 0
all_live now n [] = refl
all_live now n (c ∷ cs) = omega (arith, sum_by-cons (λ (t : Tenure). one_if (is_over t)) (tenure_from now c (n + 1)) (tenures_after now (n + 1) cs), all_live now (n + 1) cs)

pub circuits_live : (now n : ℕ) (cs : List Static) (rows : List TermRow) → tenures_in rows ≡ tenures_after now n cs → 0 ≡ count_by has_ended rows
circuits_live now n cs rows e = sym (over_count rows ∙ ap (count_by is_over) e ∙ all_live now n cs)
