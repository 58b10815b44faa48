-- Numbers of records and rows of them.
use Rattle.std.proofs.Common.{◌≡◌, ◌≢◌, ℕ, zero, suc, inl, inr, ◌+◌, ◌*◌, ◌/◌, ◌≤◌, ◌<◌, Bool, true, false, cond, List, [], ◌∷◌, ◌++◌, length, set, get_or, Option, Some, None, sym, ap, ◌∙◌, refl, arith}
use Rattle.std.specs.Prelude.{is_some}
use Rattle.std.proofs.lemmas.List.{get_or-set_same, get_or-set_other, get_or_past, get_or_append_left, length-set, length-append}
use Rattle.std.proofs.lemmas.List.Sums.{sum_by-cons, sum_by-set, sum_by_push}
use Rattle.std.proofs.lemmas.Bool.{cases_eq, cases_lt, false≢true}
use Rattle.bng_acct.specs.declared.sheet.Sheet.{Sheet}
use Rattle.bng_acct.specs.Queue.{sheet_at, count, Sets}
use Rattle.bng_acct.specs.Sheets.{AreUsed, AreFull}

abbrev one : Option Sheet → ℕ
one x = cond (is_some x) 1 0

counted : (x : Option Sheet) → is_some x ≡ true → one x ≡ 1
counted x h = ap (λ (b : Bool). cond b 1 0) h

nothing : is_some (sheet_at [] 0) ≡ true → ⊥
nothing h = cc

-- there are as many records as numbers below one that are all used, or more
pub used_le_count : (n : ℕ) (places : List (Option Sheet)) → ((m : ℕ) → m < n → is_some (sheet_at places m) ≡ true) → n ≤ count places
used_le_count zero places used = omega arith
used_le_count (suc n) [] used = absurd (nothing (used 0 (omega arith)))
used_le_count (suc n) (x ∷ places) used =
    omega (arith, used_le_count n places (λ m lt. used (suc m) (omega arith)), counted x (used 0 (omega arith)), sum_by-cons one x places)

-- a record in place of none
pub sets_place : (places : List (Option Sheet)) (n : ℕ) (x : Option Sheet) → n < length places → Sets places (set places n x) n x
sets_place places n x lt = record { changed = get_or-set_same places n x None lt; others = λ m e. get_or-set_other places n m x None e }

-- as many records as before, and what the place has in addition to what it had
pub counts_place : (places : List (Option Sheet)) (n : ℕ) (x : Option Sheet) → n < length places → count (set places n x) + one (sheet_at places n) ≡ count places + one x
counts_place places n x lt = sum_by-set one places n x None lt

-- one more place, behind the others
pub sets_push : (places : List (Option Sheet)) (n : ℕ) (x : Option Sheet) → n ≡ length places → Sets places (places ++ x ∷ []) n x
sets_push places n x e = record { changed = ap (sheet_at (places ++ x ∷ [])) e ∙ last places; others = λ m apart. other places m (λ same. apart (same ∙ sym e)) }
  where
    last : (places : List (Option Sheet)) → sheet_at (places ++ x ∷ []) (length places) ≡ x
    last [] = refl
    last (y ∷ places) = last places

    other : (places : List (Option Sheet)) (m : ℕ) → m ≢ length places → sheet_at (places ++ x ∷ []) m ≡ sheet_at places m
    other [] zero apart = absurd (apart refl)
    other [] (suc m) apart = refl
    other (y ∷ places) zero apart = refl
    other (y ∷ places) (suc m) apart = other places m (λ e. apart (ap suc e))

pub counts_push : (places : List (Option Sheet)) (x : Sheet) → count (places ++ Some x ∷ []) ≡ count places + 1
counts_push places x = sum_by_push one places (Some x)

-- rows stay full where a record is put at a number
pub full_more : (old new : List (Option Sheet)) (full : List Bool) (n : ℕ) (x : Sheet) → AreFull old full → Sets old new n (Some x) → AreFull new full
full_more old new full n x are sets = λ m marked. elim (cases_eq m n) [
  | inl is ↦ ap (λ (k : ℕ). is_some (sheet_at new k)) is ∙ ap is_some sets.changed
  | inr apart ↦ ap is_some (sets.others m apart) ∙ are m marked
]

-- the others stay full where a record is taken out, and the row is marked no more
pub full_less : (old new : List (Option Sheet)) (full : List Bool) (n : ℕ) → AreFull old full → Sets old new n None → n / 64 < length full → AreFull new (set full (n / 64) false)
full_less old new full n are sets within = λ m marked. elim (cases_eq (m / 64) (n / 64)) [
  | inl same ↦ absurd (false≢true (sym (ap (λ (k : ℕ). get_or (set full (n / 64) false) k false) same ∙ get_or-set_same full (n / 64) false false within) ∙ marked))
  | inr apart ↦ ap is_some (sets.others m (λ e. apart (ap (λ (k : ℕ). k / 64) e))) ∙ are m (sym (get_or-set_other full (n / 64) (m / 64) false false apart) ∙ marked)
]

-- a row with no free number may be marked
pub full_marked : (places : List (Option Sheet)) (full : List Bool) (row : ℕ) → AreFull places full → AreUsed places (64 * row) (64 * (row + 1)) → AreFull places (set full row true)
full_marked places full row are used = λ m marked. elim (cases_eq (m / 64) row) [
  | inl same ↦ used m (omega arith) (omega arith)
  | inr apart ↦ are m (sym (get_or-set_other full row (m / 64) true false apart) ∙ marked)
]
