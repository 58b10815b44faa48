-- The first in order of the terms that have ended leaves, and of the new ones one is told.
use Rattle.std.proofs.Common.{◌≡◌, ℕ, ◌+◌, Bool, true, false, not, cond, List, [], ◌∷◌, ◌++◌, map, filter, Option, None, Some, refl, sym, ap, subst, ◌∙◌, arith}
use Rattle.std.specs.Prelude.{sum_by}
use Rattle.std.specs.List.{All, AllByRecursion, AllPairs}
use Rattle.std.proofs.lemmas.List.{map-append}
use Rattle.std.proofs.lemmas.List.Sums.{sum_by-cons}
use Rattle.bng_base.specs.declared.book.Book.{Book}
use Rattle.bng_engine.specs.Lists.{AnyOf}
use Rattle.bng_engine.specs.Quantities.{Quantity, in_book}
use Rattle.bng_engine.specs.Sums.{stopped_where}
use Rattle.bng_engine.specs.Terms.{ComesBefore, Key, Stop, Term, is_ended, keys}
use Rattle.bng_engine.specs.Views.{Row, row_keys, rows_where}
use Rattle.bng_steps.specs.declared.terms.TermRow.{TermRow}
use Rattle.bng_steps.specs.Protocol.{cause_in, key_in, term_in}
use Rattle.bng_steps.specs.TermRows.{TakesFirst, has_ended, is_meant, key_from, row_from, rows_in, tenure_in, tenures_in}
use Rattle.bng_steps.specs.Tenures.{LeavesTerms, Tenure, is_over}
use Rattle.bng_steps.proofs.ListParts.{all_left, any_left, pairs_left}
use Rattle.bng_steps.proofs.RowOrder.{sum_taken}

-- the terms of rows, as the engine reads them
abbrev pub terms_from : List TermRow → List Term
terms_from rows = map term_in (tenures_in rows)

abbrev pub ended_from : List TermRow → List Term
ended_from rows = filter is_ended (terms_from rows)

-- each row is that of a term
pub rows_fit : (rows : List TermRow) → row_keys (rows_in rows) ≡ keys (terms_from rows)
rows_fit [] = refl
rows_fit (r ∷ rows) = ap (λ (ks : List Key). key_from r ∷ ks) (rows_fit rows)

-- What is summed of the ended terms is summed of their rows.
abbrev ended_part : (Key → ℕ → ℕ) → TermRow → ℕ
ended_part f r = cond (has_ended r) (f (key_from r) (cause_in r.cause)) 0

ended_sum : (f : Key → ℕ → ℕ) (rows : List TermRow) → sum_by (λ (t : Term). f t.key t.cause) (ended_from rows) ≡ sum_by (ended_part f) rows
ended_sum f [] = refl
ended_sum f (r ∷ rows) =
    let g : Term → ℕ = λ t. f t.key t.cause in
    let here : (b : Bool) → sum_by g (cond b (term_in (tenure_in r) ∷ ended_from rows) (ended_from rows)) ≡ cond b (f (key_from r) (cause_in r.cause)) 0 + sum_by g (ended_from rows) =
    λ b. elim b as (λ x. sum_by g (cond x (term_in (tenure_in r) ∷ ended_from rows) (ended_from rows)) ≡ cond x (f (key_from r) (cause_in r.cause)) 0 + sum_by g (ended_from rows)) [
      | true ↦ sum_by-cons g (term_in (tenure_in r)) (ended_from rows)
      | false ↦ omega arith
    ] in
    omega (arith, here (has_ended r), ended_sum f rows, sum_by-cons (ended_part f) r rows)

least_ended : (k : Key) (rows : List TermRow) → AllByRecursion (λ (p : TermRow). is_meant true p ≡ true → ComesBefore k (key_from p)) rows → AllByRecursion (λ (t : Term). ComesBefore k t.key) (ended_from rows)
least_ended k [] h = tt
least_ended k (r ∷ rows) h =
    elim (has_ended r) as (λ b. (b ≡ true → ComesBefore k (key_from r)) → AllByRecursion (λ (t : Term). ComesBefore k t.key) (cond b (term_in (tenure_in r) ∷ ended_from rows) (ended_from rows))) [
      | true ↦ λ first. (first refl, least_ended k rows h.1)
      | false ↦ λ first. least_ended k rows h.1
    ] h.0

least_new : (k : Key) (rows : List TermRow) → AllByRecursion (λ (p : TermRow). is_meant false p ≡ true → ComesBefore k (key_from p)) rows → AllByRecursion (λ (t : Tenure). ComesBefore k (key_in t)) (tenures_in rows)
least_new k [] h = tt
least_new k (r ∷ rows) h = (h.0 refl, least_new k rows h.1)

row_sum : (q : Quantity) (pick : Key → Bool) (input : Bool) (rows : List TermRow) → rows_where q pick input (rows_in rows) ≡ sum_by (λ (r : TermRow). cond (pick (key_from r)) (in_book q input r.carried) 0) rows
row_sum q pick input [] = refl
row_sum q pick input (r ∷ rows) =
    omega (
      arith,
      row_sum q pick input rows,
      sum_by-cons (λ (x : Row). cond (pick x.key) (in_book q input x.carried) 0) (row_from r) (rows_in rows),
      sum_by-cons (λ (x : TermRow). cond (pick (key_from x)) (in_book q input x.carried) 0) r rows,
    )

keys_parts : (before after : List TermRow) → row_keys (rows_in (before ++ after)) ≡ row_keys (rows_in before) ++ row_keys (rows_in after)
keys_parts [] after = refl
keys_parts (b ∷ before) after = ap (λ (ks : List Key). key_from b ∷ ks) (keys_parts before after)

-- the live terms are others
abbrev live_among : List Tenure → List Tenure
live_among ts = filter (λ (t : Tenure). not (is_over t)) ts

over_passed : (before after : List TermRow) (r : TermRow) → has_ended r ≡ true → live_among (tenures_in (before ++ r ∷ after)) ≡ live_among (tenures_in (before ++ after))
over_passed [] after r over = ap (λ (b : Bool). cond (not b) (tenure_in r ∷ live_among (tenures_in after)) (live_among (tenures_in after))) over
over_passed (b ∷ before) after r over = ap (λ (ts : List Tenure). cond (not (has_ended b)) (tenure_in b ∷ ts) ts) (over_passed before after r over)

-- where none has ended
pub none_over : (rows : List TermRow) → filter has_ended rows ≡ [] → ended_from rows ≡ []
none_over [] e = refl
none_over (r ∷ rows) e =
    elim (has_ended r) as (λ b. cond b (r ∷ filter has_ended rows) (filter has_ended rows) ≡ [] → cond b (term_in (tenure_in r) ∷ ended_from rows) (ended_from rows) ≡ []) [
      | true ↦ λ f. absurd (let never : ⊥ = cc in never)
      | false ↦ λ f. none_over rows f
    ] e

pub all_are_live : (rows : List TermRow) → filter has_ended rows ≡ [] → filter (λ (t : Tenure). not (is_over t)) (tenures_in rows) ≡ tenures_in rows
all_are_live [] e = refl
all_are_live (r ∷ rows) e =
    elim (has_ended r) as (λ b. cond b (r ∷ filter has_ended rows) (filter has_ended rows) ≡ [] → cond (not b) (tenure_in r ∷ live_among (tenures_in rows)) (live_among (tenures_in rows)) ≡ tenure_in r ∷ tenures_in rows) [
      | true ↦ λ f. absurd (let never : ⊥ = cc in never)
      | false ↦ λ f. ap (λ (ts : List Tenure). tenure_in r ∷ ts) (all_are_live rows f)
    ] e

module _ (rows rows' : List TermRow) (r : TermRow) where
  -- whichever was meant
  pub left_all : (over : Bool) (P : TermRow → Type 0) → TakesFirst over rows r rows' → All P rows → All P rows'
  left_all over P takes h = subst (All P) (sym takes.are) (all_left P takes.before takes.after r (subst (All P) takes.were h))

  pub left_pairs : (over : Bool) (R : TermRow → TermRow → Type 0) → TakesFirst over rows r rows' → AllPairs R rows → AllPairs R rows'
  left_pairs over R takes h = subst (AllPairs R) (sym takes.are) (pairs_left R takes.before takes.after r (subst (AllPairs R) takes.were h))

  pub left_were : (over : Bool) → (t : TakesFirst over rows r rows') → row_keys (rows_in rows) ≡ row_keys (rows_in t.before) ++ key_from r ∷ row_keys (rows_in t.after)
  left_were over takes = ap (λ (rs : List TermRow). row_keys (rows_in rs)) takes.were ∙ keys_parts takes.before (r ∷ takes.after)

  pub left_are : (over : Bool) → (t : TakesFirst over rows r rows') → row_keys (rows_in rows') ≡ row_keys (rows_in t.before) ++ row_keys (rows_in t.after)
  left_are over takes = ap (λ (rs : List TermRow). row_keys (rows_in rs)) takes.are ∙ keys_parts takes.before takes.after

  -- its term has left, and those before it and after it stand as they were
  pub left_leaves : (over : Bool) → TakesFirst over rows r rows' → LeavesTerms (tenures_in rows) (tenures_in rows') (tenure_in r)
  left_leaves over takes = record {
    before = tenures_in takes.before;
    after = tenures_in takes.after;
    were = ap tenures_in takes.were ∙ map-append tenure_in takes.before (r ∷ takes.after);
    are = ap tenures_in takes.are ∙ map-append tenure_in takes.before takes.after;
  }

  -- what holds of a live term alone holds of one that stays
  pub left_live : (P : Tenure → Type 0) → ((t : Tenure) → P t → t.cause ≡ None) → TakesFirst true rows r rows' → AnyOf P (tenures_in rows) → AnyOf P (tenures_in rows')
  left_live P live takes any =
      subst (λ (rs : List TermRow). AnyOf P (tenures_in rs)) (sym takes.are)
      (subst (AnyOf P) (sym (map-append tenure_in takes.before takes.after))
      (any_left P (tenures_in takes.before) (tenures_in takes.after) (tenure_in r) (λ is. not_live r.cause takes.meant (live (tenure_in r) is))
      (subst (AnyOf P) (map-append tenure_in takes.before (r ∷ takes.after)) (subst (λ (rs : List TermRow). AnyOf P (tenures_in rs)) takes.were any))))
    where
      not_live : (c : Option ℕ) → has_ended (record r { cause = c }) ≡ true → c ≡ None → ⊥
      not_live None over e = let never : ⊥ = cc in never
      not_live (Some cause) over e = let never : ⊥ = cc in never

  -- the Stop of a term that has ended
  pub left_one : (cause : ℕ) → r.cause ≡ Some cause → TakesFirst true rows r rows' → (f : Key → ℕ → ℕ) → f (key_from r) cause + sum_by (λ (t : Term). f t.key t.cause) (ended_from rows') ≡ sum_by (λ (t : Term). f t.key t.cause) (ended_from rows)
  left_one cause is takes f =
      omega (
        arith,
        ended_sum f rows,
        ended_sum f rows',
        sum_taken (ended_part f) true rows rows' r takes,
        ap (λ (c : Option ℕ). ended_part f (record r { cause = c })) is,
      )

  pub left_least : TakesFirst true rows r rows' → AllByRecursion (λ (t : Term). ComesBefore (key_from r) t.key) (ended_from rows')
  left_least takes = least_ended (key_from r) rows' takes.least

  pub left_sums : (stop : Stop) → stop.key ≡ key_from r → stop.carried ≡ r.carried → (over : Bool) → TakesFirst over rows r rows' → (q : Quantity) (pick : Key → Bool) (input : Bool) → stopped_where q pick input (stop ∷ []) + rows_where q pick input (rows_in rows') ≡ rows_where q pick input (rows_in rows)
  left_sums stop key carried over takes q pick input =
      let part = λ (x : TermRow). cond (pick (key_from x)) (in_book q input x.carried) 0 in
      omega (
        arith,
        row_sum q pick input rows,
        row_sum q pick input rows',
        sum_taken (λ (x : TermRow). cond (pick (key_from x)) (in_book q input x.carried) 0) over rows rows' r takes,
        ap (λ (k : Key). cond (pick k) (in_book q input stop.carried) 0) key,
        ap (λ (b : Book). cond (pick (key_from r)) (in_book q input b) 0) carried,
      )

  pub left_lives : TakesFirst true rows r rows' → filter (λ (t : Tenure). not (is_over t)) (tenures_in rows') ≡ filter (λ (t : Tenure). not (is_over t)) (tenures_in rows)
  left_lives takes =
      ap (λ (rs : List TermRow). live_among (tenures_in rs)) takes.are ∙ sym (over_passed takes.before takes.after r takes.meant) ∙ sym (ap (λ (rs : List TermRow). live_among (tenures_in rs)) takes.were)

  -- it comes before each new term that is left
  pub told_least : TakesFirst false rows r rows' → AllByRecursion (λ (t : Tenure). ComesBefore (key_in (tenure_in r)) (key_in t)) (tenures_in rows')
  told_least takes = least_new (key_from r) rows' takes.least
