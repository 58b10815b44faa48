-- The one's complement sum: the order of the words is free, and a checksum makes it 65535.
use Rattle.std.proofs.Common.{◌≡◌, ℕ, zero, suc, ◌+◌, ◌*◌, ◌-◌, ◌/◌, ◌%◌, ◌<◌, ◌≤◌, List, [], ◌∷◌, ◌++◌, length, get_or, take, drop, refl, sym, ap, ◌∙◌, arith, inl, inr}
use Rattle.std.proofs.lemmas.Bool.{cases_lt}
use Rattle.std.proofs.lemmas.List.{length-take, get_or-drop, get_or-take, get_or_past}
use Rattle.std.proofs.Math.Seq.{take-append-add}
use Rattle.std.specs.Prelude.{fold}
use Rattle.std.specs.List.{AllByRecursion}
use Rattle.bng_base.specs.Checksum.{end_around, words}

abbrev pub IsBytes : List ℕ → Type 0
IsBytes bytes = (i : ℕ) → get_or bytes i 0 < 256

pub end_around-le : (a b : ℕ) → a ≤ 65535 → b ≤ 65535 → end_around a b ≤ 65535
end_around-le a b p q = omega arith

pub end_around-zero : (a : ℕ) → a ≤ 65535 → end_around a 0 ≡ a
end_around-zero a p = omega arith

pub end_around-swap : (a b c : ℕ) → a ≤ 65535 → b ≤ 65535 → c ≤ 65535 → end_around (end_around a b) c ≡ end_around (end_around a c) b
end_around-swap a b c p q r = omega arith

pub end_around-complement : (a : ℕ) → a ≤ 65535 → end_around a (65535 - a) ≡ 65535
end_around-complement a p = omega arith

word-le : (high low : ℕ) (bytes : List ℕ) → IsBytes (high ∷ low ∷ bytes) → high * 256 + low ≤ 65535
word-le high low bytes fits =
    let h : high < 256 = fits 0 in
    let l : low < 256 = fits 1 in
    omega arith

pub fold-le : (bytes : List ℕ) (s : ℕ) → IsBytes bytes → s ≤ 65535 → fold end_around s (words bytes) ≤ 65535
fold-le [] s fits p = p
fold-le (high ∷ []) s fits p = p
fold-le (high ∷ low ∷ bytes) s fits p =
    fold-le bytes (end_around s (high * 256 + low)) (λ i. fits (suc (suc i))) (end_around-le s (high * 256 + low) p (word-le high low bytes fits))

-- a word may be added first or last
pub fold-swap : (bytes : List ℕ) (s c : ℕ) → IsBytes bytes → s ≤ 65535 → c ≤ 65535 → end_around (fold end_around s (words bytes)) c ≡ fold end_around (end_around s c) (words bytes)
fold-swap [] s c fits p q = refl
fold-swap (high ∷ []) s c fits p q = refl
fold-swap (high ∷ low ∷ bytes) s c fits p q =
    let w = high * 256 + low in
    let below : w ≤ 65535 = word-le high low bytes fits in
    fold-swap bytes (end_around s w) c (λ i. fits (suc (suc i))) (end_around-le s w p below) q
    ∙ ap (λ (t : ℕ). fold end_around t (words bytes)) (end_around-swap s w c p below q)

-- with the complement of the sum in a place that held 0, the sum is 65535
pub fold-complement : (bytes : List ℕ) (s : ℕ) → IsBytes bytes → s ≤ 65535
    → fold end_around (end_around s (65535 - fold end_around (end_around s 0) (words bytes))) (words bytes) ≡ 65535
fold-complement bytes s fits p =
    let same : fold end_around (end_around s 0) (words bytes) ≡ fold end_around s (words bytes) = ap (λ (t : ℕ). fold end_around t (words bytes)) (end_around-zero s p) in
    let total = fold end_around s (words bytes) in
    ap (λ (t : ℕ). fold end_around (end_around s (65535 - t)) (words bytes)) same
    ∙ sym (fold-swap bytes s (65535 - total) fits p (omega arith))
    ∙ end_around-complement total (fold-le bytes s fits p)

pub IsBytes-nil : IsBytes []
IsBytes-nil i = omega arith

pub IsBytes-cons : (b : ℕ) (bytes : List ℕ) → b < 256 → IsBytes bytes → IsBytes (b ∷ bytes)
IsBytes-cons b bytes h fits zero = h
IsBytes-cons b bytes h fits (suc i) = fits i

pub IsBytes-drop : (n : ℕ) (bytes : List ℕ) → IsBytes bytes → IsBytes (drop n bytes)
IsBytes-drop n bytes h i = rw get_or-drop (h (n + i))

pub IsBytes-take : (n : ℕ) (bytes : List ℕ) → IsBytes bytes → IsBytes (take n bytes)
IsBytes-take n bytes h i =
    elim (cases_lt i n) [
      | inl lt ↦ rw (get_or-take n bytes i 0 lt) (h i)
      | inr le ↦ rw (get_or_past (take n bytes) i 0 (omega (arith, length-take n bytes))) (omega arith)
    ]

-- the front of a list that begins with these octets
pub take-past : (front rest : List ℕ) (n : ℕ) → length front ≤ n → take n (front ++ rest) ≡ front ++ take (n - length front) rest
take-past front rest n h =
    let k : n ≡ length front + (n - length front) = omega arith in
    ap (λ (m : ℕ). take m (front ++ rest)) k ∙ take-append-add front rest (n - length front)

-- a word is the number that its two octets spell
pub word-of : (n : ℕ) → n ≤ 65535 → (n / 256 % 256) * 256 + n % 256 ≡ n
word-of n h = omega arith

-- for octets that are written out
pub cells_fit : (bytes : List ℕ) → AllByRecursion (λ b. b < 256) bytes → IsBytes bytes
cells_fit [] all = IsBytes-nil
cells_fit (b ∷ bytes) all = IsBytes-cons b bytes all.0 (cells_fit bytes all.1)
