-- What passes is entered in books, packet by packet.
use Rattle.std.proofs.Common.{◌≡◌, inl, inr, ℕ, ◌+◌, ◌^◌, ◌<◌, ◌≤◌, ◌==◌, Bool, true, false, ◌&&◌, cond, List, [], ◌∷◌, ◌++◌, length, set, Option, Some, refl, sym, ap, ◌∙◌, arith}
use Rattle.std.specs.List.{sum_by}
use Rattle.std.proofs.lemmas.Bool.{cases_eq, eq-eqb, ne_eqb}
use Rattle.std.proofs.lemmas.List.{get_or-set_same, get_or-set_other, length-set}
use Rattle.std.proofs.lemmas.List.Sums.{sum_by-cons, sum_by-append}
use Rattle.bng_base.specs.declared.book.Book.{Book}
use Rattle.bng_base.specs.declared.item.Charge.{Charge}
use Rattle.bng_base.specs.declared.item.OutRecord.{OutRecord}
use Rattle.bng_engine.specs.Books.{book_at, BooksRise}
use Rattle.bng_engine.specs.Quantities.{Quantity, amount, empty_book, in_book}
use Rattle.bng_engine.specs.Sums.{same, part_of_charge, charge_if, is_directed, is_under}
use Rattle.bng_steps.specs.Sums.{Has, IsMore, AreCovered, AreLow, AreMore, Rises}
use Rattle.bng_steps.proofs.BookLaws.{at_most}

abbrev part : (Charge → ℕ) → OutRecord → ℕ
part f o = part_of_charge f o.charge

-- outs one after the other
pub rises_begin : (b : Book) → Rises b [] b
rises_begin b q input = omega arith

pub rises_more : (b b' b'' : Book) (os : List OutRecord) (o : OutRecord) → Rises b os b' → Rises b' (o ∷ []) b'' → Rises b (os ++ o ∷ []) b''
rises_more b b' b'' os o so_far one q input = omega (arith, so_far q input, one q input, sum_by-append (part (charge_if q (is_directed input))) os (o ∷ []))

-- the books of the profiles ----------------------------------------------------------------------------------------------

under_this : (profile i n : ℕ) (s : Bool) → profile ≡ i → cond ((profile == i) && s) n 0 ≡ cond s n 0
under_this profile i n s e = ap (λ (b : Bool). cond (b && s) n 0) (eq-eqb profile i e)

under_other : (profile i n : ℕ) (s : Bool) → (profile ≡ i → ⊥) → cond ((profile == i) && s) n 0 ≡ 0
under_other profile i n s e = ap (λ (b : Bool). cond (b && s) n 0) (ne_eqb profile i e)

-- a list of which one book is another
module _ (bs : List Book) (k : ℕ) (b : Book) (within : k < length bs) where
  here : (i : ℕ) → i ≡ k → book_at i (set bs k b) ≡ b
  here i e = ap (λ (j : ℕ). book_at j (set bs k b)) e ∙ get_or-set_same bs k b empty_book within

  elsewhere : (i : ℕ) → (i ≡ k → ⊥) → book_at i (set bs k b) ≡ book_at i bs
  elsewhere i ne = get_or-set_other bs k i b empty_book ne

-- one book has a packet more
pub set_more : (bs bs' : List Book) (k : ℕ) (b : Book) (input : Bool) (n : ℕ) → k < length bs → bs' ≡ set bs k b → IsMore (book_at k bs) input n b → AreMore bs k input n bs'
set_more bs bs' k b input n within is more = record {
  count = ap length is ∙ length-set bs k b;
  each = λ q i direction lt.
      let now = ap (λ (cs : List Book). in_book q direction (book_at i cs)) is in
      elim (cases_eq i k) [
        | inl e ↦
            omega (
              arith,
              now,
              ap (in_book q direction) (here bs k b within i e),
              more q direction,
              ap (λ (j : ℕ). in_book q direction (book_at j bs)) e,
              under_this k i (amount q n) (same direction input) (sym e),
            )
        | inr ne ↦ omega (arith, now, ap (in_book q direction) (elsewhere bs k b within i ne), under_other k i (amount q n) (same direction input) (λ e. ne (sym e)))
      ];
}

-- one has a packet less
pub set_less : (bs bs' : List Book) (k : ℕ) (b : Book) (input : Bool) (n : ℕ) → k < length bs → bs' ≡ set bs k b → IsMore b input n (book_at k bs) → AreMore bs' k input n bs
set_less bs bs' k b input n within is more =
    let count : length bs' ≡ length bs = ap length is ∙ length-set bs k b in
    record {
      count = sym count;
      each = λ q i direction lt.
          let now = ap (λ (cs : List Book). in_book q direction (book_at i cs)) is in
          elim (cases_eq i k) [
            | inl e ↦
                omega (
                  arith,
                  now,
                  ap (in_book q direction) (here bs k b within i e),
                  more q direction,
                  ap (λ (j : ℕ). in_book q direction (book_at j bs)) e,
                  under_this k i (amount q n) (same direction input) (sym e),
                )
            | inr ne ↦ omega (arith, now, ap (in_book q direction) (elsewhere bs k b within i ne), under_other k i (amount q n) (same direction input) (λ e. ne (sym e)))
          ];
    }

at_most_one : (b : Bool) (q : Quantity) (x y : Bool) (n : ℕ) → n < 2 ^ 16 → cond (b && same x y) (amount q n) 0 ≤ 2 ^ 16
at_most_one true q x y n short = at_most q x y n short
at_most_one false q x y n short = omega arith

-- one packet more is little more
pub little_in_books : (bs bs' : List Book) (k : ℕ) (input : Bool) (n : ℕ) → n < 2 ^ 16 → AreMore bs k input n bs' → (most : ℕ) → AreLow most bs → AreLow (most + 2 ^ 16) bs'
little_in_books bs bs' k input n short more most low i lt q direction =
    let within : i < length bs = omega (arith, lt, more.count) in
    omega (arith, more.each q i direction within, at_most_one (k == i) q direction input n short, low i within q direction)

pub booked_begin : (bs : List Book) → BooksRise bs [] bs
booked_begin bs = record { count = refl; each = λ q i input lt. omega arith }

pub booked_more : (bs bs' bs'' : List Book) (os : List OutRecord) (o : OutRecord) → BooksRise bs os bs' → BooksRise bs' (o ∷ []) bs'' → BooksRise bs (os ++ o ∷ []) bs''
booked_more bs bs' bs'' os o so_far one = record {
  count = one.count ∙ so_far.count;
  each = λ q i input lt.
      omega (
        arith,
        so_far.each q i input lt,
        one.each q i input (omega (arith, lt, so_far.count)),
        sum_by-append (part (charge_if q (is_under i input))) os (o ∷ []),
      );
}

-- what is taken off ------------------------------------------------------------------------------------------------------

abbrev failed_part : (Charge → ℕ) → OutRecord → ℕ
failed_part f o = cond o.sent 0 (part_of_charge f o.charge)

one_failed : (f : Charge → ℕ) (o : OutRecord) (c : Option Charge) → o.charge ≡ c → o.sent ≡ false → sum_by (failed_part f) (o ∷ []) ≡ part_of_charge f c
one_failed f o c e sent = omega (arith, sum_by-cons (failed_part f) o [], ap (λ (b : Bool). cond b 0 (part_of_charge f o.charge)) sent, ap (part_of_charge f) e)

same_itself : (b : Bool) → same b b ≡ true
same_itself true = refl
same_itself false = refl

-- the book that covers a failed packet of its profile has it
pub covered_has : (bs : List Book) (o : OutRecord) (c : Charge) → o.charge ≡ Some c → o.sent ≡ false → c.profile < length bs → AreCovered bs o → Has (book_at c.profile bs) c.input c.octets
covered_has bs o c e sent there covered q =
    omega (
      arith,
      covered q c.profile c.input there,
      one_failed (charge_if q (is_under c.profile c.input)) o (Some c) e sent,
      under_this c.profile c.profile (amount q c.octets) (same c.input c.input) refl,
      ap (λ (s : Bool). cond s (amount q c.octets) 0) (same_itself c.input),
    )
