-- What the bits of places are after one is set or cleared, and where the lowest of them is.
use Rattle.std.proofs.Common.{◌≡◌, ℕ, ◌+◌, not, position, cond, is_some, Some, None, ◌-◌, ◌*◌, ◌/◌, ◌%◌, ◌^◌, ◌<◌, ◌≢◌, Bool, true, false, List, [], ◌∷◌, length, get_or, set, if◌then◌else◌, ◌==◌, bit_and, bit_or, inl, inr, sym, ap, ◌∙◌, arith, w64}
use Rattle.std.specs.Int.{bit_at, trailing_zeros}
use Rattle.std.proofs.lemmas.Bool.{cases_eq, cases_lt, lt-ltb, false≢true}
use Rattle.std.specs.List.{position_or_len}
use Rattle.std.proofs.lemmas.List.Quantifiers.{position-Some}
use Rattle.std.proofs.lemmas.List.Sums.{fails_before_first}
use Rattle.std.proofs.lemmas.Bool.Decides.{nat_tests}
use Rattle.std.proofs.lemmas.List.{get_or-set_same, get_or-set_other, get_or-replicate, get_or_past}
use Rattle.std.proofs.lemmas.Nat.Bits.{bit_at_clear_same, bit_at_clear_other, bit_at_set_same, bit_at_set_other, bit_at-trailing_zeros, bit_at_ones, bit_at-zero}
use Rattle.bng_slots.specs.Bits.{free_bit}

at_same : {A : Type 0} (i p : ℕ) (x y z : A) → i ≡ p → z ≡ x → z ≡ (if i == p then x else y)
at_same i p x y z same is = grind (arith, nat_tests)

at_other : {A : Type 0} (i p : ℕ) (x y z : A) → i ≢ p → z ≡ y → z ≡ (if i == p then x else y)
at_other i p x y z differ is = grind (arith, nat_tests)

module _ (words : List ℕ) (p : ℕ) (long : p / 64 < length words) where
  old : ℕ
  old = get_or words (p / 64) 0

  written : ℕ → List ℕ
  written w = set words (p / 64) w

  -- the bit of another place, where the new word has its old bits elsewhere
  other : (w i : ℕ) → ((k : ℕ) → k < 64 → k ≢ p % 64 → bit_at w k ≡ bit_at (get_or words (p / 64) 0) k) → i ≢ p → free_bit (set words (p / 64) w) i ≡ free_bit words i
  other w i keeps differ = elim (cases_eq (i / 64) (p / 64)) [
    | inl same ↦
        let bit : bit_at w (i % 64) ≡ bit_at (get_or words (p / 64) 0) (i % 64) = keeps (i % 64) (omega arith) (λ e. differ (omega arith)) in
        rw same (ap (λ v. bit_at v (i % 64)) (get_or-set_same words (p / 64) w 0 long) ∙ bit)
    | inr apart ↦ ap (λ v. bit_at v (i % 64)) (get_or-set_other words (p / 64) (i / 64) w 0 apart)
  ]

  this : (w b : ℕ) → bit_at w (p % 64) ≡ b → free_bit (set words (p / 64) w) p ≡ b
  this w b is = ap (λ v. bit_at v (p % 64)) (get_or-set_same words (p / 64) w 0 long) ∙ is

  pub taken : (i : ℕ) → free_bit (set words (p / 64) (bit_and (get_or words (p / 64) 0) (18446744073709551615 - 1 * 2 ^ (p % 64) % 18446744073709551616))) i ≡ (if i == p then 0 else free_bit words i)
  taken i = elim (cases_eq i p) [
    | inl same ↦ at_same i p _ _ _ same (rw same (this _ 0 (bit_at_clear_same w64 (get_or words (p / 64) 0) (p % 64) (omega arith))))
    | inr differ ↦ at_other i p _ _ _ differ (other _ i (λ k below apart. bit_at_clear_other w64 (get_or words (p / 64) 0) (p % 64) (omega arith) k below apart) differ)
  ]

  pub given_back : (i : ℕ) → free_bit (set words (p / 64) (bit_or (get_or words (p / 64) 0) (1 * 2 ^ (p % 64) % 18446744073709551616))) i ≡ (if i == p then 1 else free_bit words i)
  given_back i = elim (cases_eq i p) [
    | inl same ↦ at_same i p _ _ _ same (rw same (this _ 1 (bit_at_set_same w64 (get_or words (p / 64) 0) (p % 64) (omega arith))))
    | inr differ ↦ at_other i p _ _ _ differ (other _ i (λ k below apart. bit_at_set_other w64 (get_or words (p / 64) 0) (p % 64) (omega arith) k apart) differ)
  ]

-- in words of ones every bit is 1
ones_at : (k : ℕ) → k < 16 → get_or {A = ℕ} (18446744073709551615 ∷ 18446744073709551615 ∷ 18446744073709551615 ∷ 18446744073709551615 ∷ 18446744073709551615 ∷ 18446744073709551615 ∷ 18446744073709551615 ∷ 18446744073709551615 ∷ 18446744073709551615 ∷ 18446744073709551615 ∷ 18446744073709551615 ∷ 18446744073709551615 ∷ 18446744073709551615 ∷ 18446744073709551615 ∷ 18446744073709551615 ∷ 18446744073709551615 ∷ []) k 0 ≡ 2 ^ 64 - 1
ones_at k small = get_or-replicate 16 k 18446744073709551615 0 small

pub all_free : (i : ℕ) → i < 1024 → free_bit (18446744073709551615 ∷ 18446744073709551615 ∷ 18446744073709551615 ∷ 18446744073709551615 ∷ 18446744073709551615 ∷ 18446744073709551615 ∷ 18446744073709551615 ∷ 18446744073709551615 ∷ 18446744073709551615 ∷ 18446744073709551615 ∷ 18446744073709551615 ∷ 18446744073709551615 ∷ 18446744073709551615 ∷ 18446744073709551615 ∷ 18446744073709551615 ∷ 18446744073709551615 ∷ []) i ≡ 1
all_free i small = ap (λ v. bit_at v (i % 64)) (ones_at (i / 64) (omega arith)) ∙ bit_at_ones 64 (i % 64) (omega arith)

-- the lowest bit of the first word that has one
pub record IsLowest (words : List ℕ) (place : ℕ) : Type 0 where
  pub free : free_bit words place ≡ 1
  pub below : (i : ℕ) → i < place → free_bit words i ≡ 0

not_zero : (w : ℕ) → not (w == 0) ≡ true → 0 < w
not_zero w h = grind (arith, nat_tests)

zero_word : (w : ℕ) → not (w == 0) ≡ false → w ≡ 0
zero_word w h = grind (arith, nat_tests)

no_bit : (w i : ℕ) → w ≡ 0 → bit_at w i ≡ 0
no_bit w i e = rw e (bit_at-zero i)

pub lowest : (words : List ℕ) (at : ℕ) → position (λ w. not (w == 0)) words ≡ Some at → get_or words at 0 < 2 ^ 64 → IsLowest words (at * 64 + trailing_zeros w64 (get_or words at 0))
lowest words at found small =
    let first = position-Some (λ w. not (w == 0)) words at 0 found in
    let tz = bit_at-trailing_zeros w64 (get_or words at 0) (not_zero _ first.1) small in
    let t = trailing_zeros w64 (get_or words at 0) in
    let word : (at * 64 + t) / 64 ≡ at = omega (arith, tz.0) in
    let bit : (at * 64 + t) % 64 ≡ t = omega (arith, tz.0) in
    record {
      free = ap (λ k. bit_at (get_or words k 0) ((at * 64 + t) % 64)) word ∙ ap (bit_at (get_or words at 0)) bit ∙ tz.1;
      below = λ i lt. elim (cases_lt (i / 64) at) [
        | inl before ↦ no_bit _ (i % 64) (zero_word _ (first.2 (i / 64) before))
        | inr reached ↦
            let same : i / 64 ≡ at = omega (arith, tz.0) in
            let under : i % 64 < t = omega (arith, tz.0) in
            ap (λ k. bit_at (get_or words k 0) (i % 64)) same ∙ tz.2 (i % 64) under
      ];
    }

-- no element passes where no position is found
position-None : (p : ℕ → Bool) (xs : List ℕ) → position p xs ≡ None → (k : ℕ) → k < length xs → p (get_or xs k 0) ≡ false
position-None p xs none k within = elim (cases_lt (position_or_len p xs) (length xs)) [
  | inl at ↦ absurd (false≢true (sym (ap is_some none) ∙ ap is_some (ap (λ b. cond b (Some (position_or_len p xs)) None) (lt-ltb _ _ at))))
  | inr far ↦ fails_before_first p xs k 0 (omega arith)
]

pub none_free : (words : List ℕ) → position (λ w. not (w == 0)) words ≡ None → (i : ℕ) → free_bit words i ≡ 0
none_free words none i = elim (cases_lt (i / 64) (length words)) [
  | inl within ↦ no_bit _ (i % 64) (zero_word _ (position-None (λ w. not (w == 0)) words none (i / 64) within))
  | inr past ↦ no_bit _ (i % 64) (get_or_past words (i / 64) 0 past)
]
