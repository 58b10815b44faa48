-- The rows of a shard's terms stand by rising numbers, and a send adds to the row of its term.
use Rattle.std.proofs.Common.{◌≡◌, inl, inr, ℕ, zero, suc, ◌+◌, ◌<◌, ◌≤◌, Bool, true, cond, List, [], ◌∷◌, length, Some, Result, Ok, Err, MatchResult, refl, ap, sym, ◌∙◌, subst, arith}
use Rattle.std.proofs.Math.ListN.{get_or, set}
use Rattle.std.specs.List.{AllByRecursion}
use Rattle.std.specs.List.Sorted.{IsSearchInRange, IsBinarySearchResult, IsNonDecreasingBy}
use Rattle.std.specs.Ordering.{nat_cmp, ordering_index}
use Rattle.std.proofs.lemmas.Bool.{cases_lt}
use Rattle.std.proofs.lemmas.Bool.Decides.{nat_tests}
use Rattle.std.proofs.lemmas.Cmp.{ranked}
use Rattle.std.proofs.lemmas.List.Sorted.{IsNonDecreasingBy-from_default}
use Rattle.std.proofs.lemmas.List.Sums.{sum_by-cons}
use Rattle.bng_base.specs.declared.book.Book.{Book}
use Rattle.bng_base.specs.declared.item.Charge.{Charge}
use Rattle.bng_base.specs.declared.item.OutRecord.{OutRecord}
use Rattle.bng_engine.specs.Calls.{SayMore}
use Rattle.bng_engine.specs.Lists.{AnyOf}
use Rattle.bng_engine.specs.Protocol.{HasKey}
use Rattle.bng_engine.specs.Quantities.{Quantity, amount, in_book}
use Rattle.bng_engine.specs.Sums.{same, is_any}
use Rattle.bng_engine.specs.Terms.{Key, key_in}
use Rattle.bng_engine.specs.Views.{Row, row_keys, rows_where}
use Rattle.bng_engine.proofs.Charging.{charge_row}
use Rattle.bng_steps.specs.declared.terms.TermRow.{TermRow}
use Rattle.bng_steps.specs.TermRows.{AreRising, HasSerial, IsPlaceOf, row_from, rows_in, tenure_in, tenures_in}
use Rattle.bng_steps.specs.Tenures.{Tenure}
use Rattle.bng_steps.specs.Sums.{IsMore, RowsAreLow}

-- Rows by rising numbers ----------------------------------------------------------------------------------------------------

-- each has a number above those before it
abbrev pub KeysRise : List Key → Type 0
KeysRise [] = Unit {0}
KeysRise (k ∷ ks) = AllByRecursion (λ (j : Key). k.term.serial < j.term.serial) ks × KeysRise ks

above_rows : (n : ℕ) (rs : List TermRow) → AllByRecursion (λ (k : Key). n < k.term.serial) (row_keys (rows_in rs)) → AllByRecursion (λ (p : TermRow). n < p.term.serial) rs
above_rows n [] h = tt
above_rows n (r ∷ rs) h = (h.0, above_rows n rs h.1)

above_keys : (n : ℕ) (rs : List TermRow) → AllByRecursion (λ (p : TermRow). n < p.term.serial) rs → AllByRecursion (λ (k : Key). n < k.term.serial) (row_keys (rows_in rs))
above_keys n [] h = tt
above_keys n (r ∷ rs) h = (h.0, above_keys n rs h.1)

pub rows_rise : (rs : List TermRow) → KeysRise (row_keys (rows_in rs)) → AreRising rs
rows_rise [] h = tt
rows_rise (r ∷ rs) h = (above_rows r.term.serial rs h.0, rows_rise rs h.1)

keys_rise : (rs : List TermRow) → AreRising rs → KeysRise (row_keys (rows_in rs))
keys_rise [] h = tt
keys_rise (r ∷ rs) h = (above_keys r.term.serial rs h.0, keys_rise rs h.1)

-- and as long as the keys stay
pub same_rising : (rs rs' : List TermRow) → row_keys (rows_in rs') ≡ row_keys (rows_in rs) → AreRising rs → AreRising rs'
same_rising rs rs' e h = rows_rise rs' (subst KeysRise (sym e) (keys_rise rs h))

-- Where a row stands ---------------------------------------------------------------------------------------------------------

all_at : (n : ℕ) (rs : List TermRow) (j : ℕ) (d : TermRow) → AllByRecursion (λ (r : TermRow). n < r.term.serial) rs → j < length rs → n < (get_or rs j d).term.serial
all_at n [] j d h within = absurd (omega (arith, within))
all_at n (r ∷ rs) zero d h within = h.0
all_at n (r ∷ rs) (suc j) d h within = all_at n rs j d h.1 (omega (arith, within))

pub rises : (rs : List TermRow) (i j : ℕ) (d : TermRow) → AreRising rs → i < j → j < length rs → (get_or rs i d).term.serial < (get_or rs j d).term.serial
rises [] i j d h lt within = absurd (omega (arith, within))
rises (r ∷ rs) i zero d h lt within = absurd (omega (arith, lt))
rises (r ∷ rs) zero (suc j) d h lt within = all_at r.term.serial rs j d h.0 (omega (arith, within))
rises (r ∷ rs) (suc i) (suc j) d h lt within = rises rs i j d h.1 (omega (arith, lt)) (omega (arith, within))

-- no two rows have the same number
one_place : (rs : List TermRow) (i j : ℕ) (d : TermRow) → AreRising rs → i < length rs → j < length rs → (get_or rs i d).term.serial ≡ (get_or rs j d).term.serial → i ≡ j
one_place rs i j d h within_i within_j same =
    elim (cases_lt i j) [
      | inl lt ↦ let less = rises rs i j d h lt within_j in absurd (omega (arith, less, same))
      | inr ge ↦ elim (cases_lt j i) [
        | inl lt ↦ let less = rises rs j i d h lt within_i in absurd (omega (arith, less, same))
        | inr le ↦ omega (arith, ge, le)
      ]
    ]

module _ (serial : ℕ) (rs : List TermRow) (rising : AreRising rs) where
  comparisons_rise : (blank : TermRow) → IsNonDecreasingBy (λ (r : TermRow). ordering_index (nat_cmp r.term.serial serial)) rs
  comparisons_rise blank = IsNonDecreasingBy-from_default (λ (r : TermRow). ordering_index (nat_cmp r.term.serial serial)) rs blank (λ i j le within.
      let up : (get_or rs i blank).term.serial ≤ (get_or rs j blank).term.serial = not_above i j le within in
      higher (get_or rs i blank).term.serial (get_or rs j blank).term.serial up)
    where
      not_above : (i j : ℕ) → i ≤ j → j < length rs → (get_or rs i blank).term.serial ≤ (get_or rs j blank).term.serial
      not_above i j le within =
          elim (cases_lt i j) [
            | inl lt ↦ let less = rises rs i j blank rising lt within in omega (arith, less)
            | inr ge ↦
                let at : i ≡ j = omega (arith, le, ge) in
                let same = ap (λ (k : ℕ). (get_or rs k blank).term.serial) at in
                omega (arith, same)
          ]

      higher : (a b : ℕ) → a ≤ b → ordering_index (nat_cmp a serial) ≤ ordering_index (nat_cmp b serial)
      higher a b le = grind (arith, nat_tests)

  stands_somewhere : (qs : List TermRow) → AnyOf (HasSerial serial) qs → TermRow × ((j : ℕ) × (j < length qs) × ((d : TermRow) → (get_or qs j d).term.serial ≡ serial))
  stands_somewhere [] any = absurd any
  stands_somewhere (q ∷ qs) (inl is) = (q, (0, omega arith, λ d. is))
  stands_somewhere (q ∷ qs) (inr later) = let (r, rest) = stands_somewhere qs later in (r, (suc rest.0, omega (arith, rest.1), rest.2))

  -- a binary search by number ends at the row that has it, or none has it
  pub searched : (result : Result ℕ ℕ) → IsSearchInRange result (length rs) → IsBinarySearchResult (λ (r : TermRow). nat_cmp r.term.serial serial) rs result
      → MatchResult result (λ place. IsPlaceOf serial rs place) (λ place. AnyOf (HasSerial serial) rs → ⊥)
  searched (Ok place) within equal = (within, λ d. ranked (get_or rs place d).term.serial serial _ (sym (equal d)))
  searched (Err place) within parted = λ any.
      let (blank, there) = stands_somewhere rs any in
      let same = there.2 blank in
      elim (cases_lt there.0 place) [
        | inl lt ↦ let less : (get_or rs there.0 blank).term.serial < serial = ranked (get_or rs there.0 blank).term.serial serial _ (sym ((parted (comparisons_rise blank)).0 there.0 blank (omega arith) lt)) in
            absurd (omega (arith, less, same))
        | inr ge ↦ let more : serial < (get_or rs there.0 blank).term.serial = ranked (get_or rs there.0 blank).term.serial serial _ (sym ((parted (comparisons_rise blank)).1 there.0 blank ge there.1)) in
            absurd (omega (arith, more, same))
      ]

-- the row of a term is among those that have its number
pub owned_serial : (c : Charge) (rs : List TermRow) → AnyOf (HasKey c) (row_keys (rows_in rs)) → AnyOf (HasSerial c.term.serial) rs
owned_serial c [] own = absurd own
owned_serial c (r ∷ rs) (inl is) = inl (ap (λ (k : Key). k.term.serial) is)
owned_serial c (r ∷ rs) (inr later) = inr (owned_serial c rs later)

owned_there : (c : Charge) (rs : List TermRow) → AnyOf (HasKey c) (row_keys (rows_in rs)) → (j : ℕ) × (j < length rs) × ((d : TermRow) → (row_from (get_or rs j d)).key ≡ key_in c)
owned_there c [] own = absurd own
owned_there c (r ∷ rs) (inl is) = (0, omega arith, λ d. is)
owned_there c (r ∷ rs) (inr later) = let rest = owned_there c rs later in (suc rest.0, omega (arith, rest.1), rest.2)

-- and is the one that stands at its place
pub key_at_place : (c : Charge) (rs : List TermRow) (place : ℕ) (d : TermRow) → AreRising rs → AnyOf (HasKey c) (row_keys (rows_in rs)) → IsPlaceOf c.term.serial rs place → (row_from (get_or rs place d)).key ≡ key_in c
key_at_place c rs place d rising own is =
    let there = owned_there c rs own in
    let same : place ≡ there.0 = one_place rs place there.0 d rising is.0 there.1 (is.1 d ∙ sym (ap (λ (k : Key). k.term.serial) (there.2 d))) in
    ap (λ (i : ℕ). (row_from (get_or rs i d)).key) same ∙ there.2 d

-- a row says no more than all together
part_low : (q : Quantity) (input : Bool) (rs : List TermRow) (i : ℕ) (d : TermRow) → i < length rs → in_book q input (get_or rs i d).carried ≤ rows_where q is_any input (rows_in rs)
part_low q input [] i d lt = absurd (omega (arith, lt))
part_low q input (r ∷ rs) zero d lt = omega (arith, sum_by-cons (λ (x : Row). cond (is_any x.key) (in_book q input x.carried) 0) (row_from r) (rows_in rs))
part_low q input (r ∷ rs) (suc i) d lt = omega (arith, sum_by-cons (λ (x : Row). cond (is_any x.key) (in_book q input x.carried) 0) (row_from r) (rows_in rs), part_low q input rs i d (omega (arith, lt)))

pub row_low : (most : ℕ) (q : Quantity) (input : Bool) (rs : List TermRow) (i : ℕ) (d : TermRow) → i < length rs → RowsAreLow most (rows_in rs) → in_book q input (get_or rs i d).carried ≤ most
row_low most q input rs i d lt low = omega (arith, part_low q input rs i d lt, low q input)

pub rows_get : (rs : List TermRow) (i : ℕ) (d : TermRow) → get_or (rows_in rs) i (row_from d) ≡ row_from (get_or rs i d)
rows_get [] i d = refl
rows_get (r ∷ rs) zero d = refl
rows_get (r ∷ rs) (suc i) d = rows_get rs i d

rows_set : (rs : List TermRow) (i : ℕ) (r : TermRow) → rows_in (set rs i r) ≡ set (rows_in rs) i (row_from r)
rows_set [] i r = refl
rows_set (x ∷ rs) zero r = refl
rows_set (x ∷ rs) (suc i) r = ap (λ (ys : List Row). row_from x ∷ ys) (rows_set rs i r)

rows_count : (rs : List TermRow) → length (rows_in rs) ≡ length rs
rows_count [] = refl
rows_count (r ∷ rs) = ap suc (rows_count rs)

-- with one packet more in a row
abbrev pub with_book : TermRow → Book → TermRow
with_book r b = record r { carried = b }

-- a packet that was sent is in the row of its term
pub one_row : (rs : List TermRow) (i : ℕ) (d : TermRow) (b : Book) (c : Charge) (o : OutRecord) → i < length rs → (get_or (rows_in rs) i (row_from d)).key ≡ key_in c → o.charge ≡ Some c → o.sent ≡ true
    → IsMore (get_or rs i d).carried c.input c.octets b → SayMore (rows_in rs) (o ∷ []) (rows_in (set rs i (with_book (get_or rs i d) b)))
one_row rs i d b c o lt key charged sent more =
    let row = row_from (with_book (get_or rs i d) b) in
    let was = rows_get rs i d in
    subst (λ (rows : List Row). SayMore (rows_in rs) (o ∷ []) rows) (sym (rows_set rs i (with_book (get_or rs i d) b)))
    (charge_row (rows_in rs) i (row_from d) row o c (omega (arith, lt, rows_count rs)) key (ap (λ (x : Row). x.key) (sym was) ∙ key) charged sent
    (λ q input. more q input ∙ ap (λ (x : Row). in_book q input x.carried + cond (same input c.input) (amount q c.octets) 0) (sym was)))

pub tenures_set : (rs : List TermRow) (i : ℕ) (d : TermRow) (b : Book) → tenures_in (set rs i (with_book (get_or rs i d) b)) ≡ tenures_in rs
tenures_set [] i d b = refl
tenures_set (r ∷ rs) zero d b = refl
tenures_set (r ∷ rs) (suc i) d b = ap (λ (ts : List Tenure). tenure_in r ∷ ts) (tenures_set rs i d b)
