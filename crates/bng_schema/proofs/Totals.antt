-- How many addresses the first pools have.
use Rattle.std.proofs.Common.{◌≡◌, ℕ, ◌+◌, ◌<◌, ◌≤◌, ◌⊎◌, ◌↔◌, inl, inr, IsTrue, nat_lt, min, List, [], ◌∷◌, ◌++◌, length-append, get_or, refl, sym, ap, ◌∙◌, arith}
use Rattle.std.proofs.lemmas.Bool.{cases_lt}
use Rattle.std.proofs.lemmas.Bool.Decides.{nat_tests}
use Rattle.toml.specs.Data.{Data}
use Rattle.bng_base.specs.declared.book.Range.{Range}
use Rattle.bng_schema.specs.Forms.{IsAddress}
use Rattle.bng_base.specs.Ranges.{size_of}
use Rattle.bng_schema.specs.Ranges.{address_count, IsRangeAt, AreRangesOf, AreTooMany}
use Rattle.bng_schema.proofs.Once.{address_at_once, one_at, one_list}
use Rattle.bng_schema.proofs.Places.{each_none, each_push}

pub count_push : (rs : List Range) (r : Range) → address_count (rs ++ r ∷ []) ≡ address_count rs + size_of r
count_push [] r = omega arith
count_push (x ∷ rs) r = let more = count_push rs r in omega arith

pub range_once : (document : Data) (place : ℕ) (r q : Range) → IsRangeAt document place r → IsRangeAt document place q → r ≡ q
range_once document place r q a b =
    let firsts : r.first ≡ q.first = one_at IsAddress address_at_once r.first q.first a.0 b.0 in
    let lasts : r.last ≡ q.last = one_at IsAddress address_at_once r.last q.last a.1 b.1 in
    λ i. record { first = firsts i; last = lasts i }

pub ranges_once : (document : Data) (many : ℕ) (xs ys : List Range) → AreRangesOf document many xs → AreRangesOf document many ys → xs ≡ ys
ranges_once document many xs ys p q = one_list (IsRangeAt document) (range_once document) xs ys (p.all ∙ sym q.all) p.are q.are

-- the count of the addresses of the first pools, this many, and of one range more; a count that is too high stops rising
pub record IsTotal (document : Data) (many : ℕ) (r : Range) (count : ℕ) : Type 0 where
  pub earlier : List Range
  pub are : AreRangesOf document many earlier
  pub total : count ≡ min (address_count earlier + size_of r) 262145

pub total_none : (document : Data) (many : ℕ) (r : Range) (count : ℕ) → many ≡ 0 → count ≡ min (size_of r) 262145 → IsTotal document many r count
total_none document many r count none is = record {
  earlier = [];
  are = record { all = sym none; are = each_none (IsRangeAt document) [] refl };
  total = omega arith;
}

pub total_more : (document : Data) (many next : ℕ) (r q : Range) (count new : ℕ) → next ≡ many + 1 → IsTotal document many r count → IsRangeAt document many q
    → new ≡ min (count + size_of q) 262145 → IsTotal document next r new
total_more document many next r q count new one t at is =
    let all = t.are.all in
    let long = length-append t.earlier (q ∷ []) in
    let sum = count_push t.earlier q in
    let so_far = t.total in
    record {
      earlier = t.earlier ++ q ∷ [];
      are = record { all = omega arith; are = each_push (IsRangeAt document) t.earlier many q t.are.all t.are.are at };
      total = omega arith;
    }

pub total_high : (document : Data) (many : ℕ) (r : Range) (count : ℕ) → IsTotal document many r count → 262144 < count → AreTooMany document many r
total_high document many r count t high =
    let so_far = t.total in
    (t.earlier, t.are, omega arith)

pub total_low : (document : Data) (many : ℕ) (r : Range) (count : ℕ) → IsTotal document many r count → count ≤ 262144 → ¬ AreTooMany document many r
total_low document many r count t low h =
    let so_far = t.total in
    let same : address_count h.0 ≡ address_count t.earlier = ap address_count (ranges_once document many h.0 t.earlier h.1 t.are) in
    let high = h.2 in
    omega arith

told_lt : (a b : ℕ) → a < b → IsTrue (nat_lt a b)
told_lt a b h = grind (arith, nat_tests)

meant_lt : (a b : ℕ) → IsTrue (nat_lt a b) → a < b
meant_lt a b h = grind (arith, nat_tests)

high_or_low : (document : Data) (many : ℕ) (r : Range) (count : ℕ) → IsTotal document many r count → (262144 < count) ⊎ (count ≤ 262144) → (IsTrue (nat_lt 262144 count) ↔ AreTooMany document many r)
high_or_low document many r count t (inl high) = (λ h. total_high document many r count t high, λ h. told_lt 262144 count high)
high_or_low document many r count t (inr low) = (λ h. let high = meant_lt 262144 count h in absurd (omega arith), λ h. absurd (total_low document many r count t low h))

pub total_told : (document : Data) (many : ℕ) (r : Range) (count : ℕ) → IsTotal document many r count → (IsTrue (nat_lt 262144 count) ↔ AreTooMany document many r)
total_told document many r count t = high_or_low document many r count t (cases_lt 262144 count)

-- where a pool has no range, there is no count
pub none_total : (document : Data) (many i : ℕ) (r : Range) → i < many → ((q : Range) → ¬ IsRangeAt document i q) → ¬ AreTooMany document many r
none_total document many i r less none h =
    let all = h.1.all in
    none (get_or h.0 i r) (h.1.are i r (omega arith))
