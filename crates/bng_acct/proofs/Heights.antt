-- How high a tree of terms is.
use Rattle.std.proofs.Common.{◌≡◌, ℕ, zero, suc, ◌+◌, ◌*◌, ◌^◌, ◌≤◌, ◌<◌, max, List, length, ap, ◌∙◌, arith, inl, inr}
use Rattle.std.proofs.Math.Pow.{pow_mono}
use Rattle.std.proofs.lemmas.Nat.{mul-le}
use Rattle.std.proofs.lemmas.Grind.{pow_more}
use Rattle.std.proofs.lemmas.Bool.{cases_lt}
use Rattle.bng_acct.specs.declared.held.Held.{Held}
use Rattle.bng_acct.specs.Branch.{DifferByAtMost, IsFlat, Settles}

-- a level more, where each of two sides has all but two of the levels
four_times : (a b m : ℕ) → m ≤ a * a → m ≤ b * b → 4 * m ≤ (a + b) * (a + b)
four_times a b m p q = elim (cases_lt a b) [
  | inl less ↦ let cross : a * a ≤ a * b = mul-le a a a b (omega arith) (omega (arith, less)) in omega (arith, p, q, cross)
  | inr more ↦ let cross : b * b ≤ a * b = mul-le b b a b more (omega arith) in omega (arith, p, q, cross)
]

flat_by : (a b n k h : ℕ) → 2 ^ k ≤ a * a → 2 ^ k ≤ b * b → n ≡ a + b → h ≡ k + 1 + 1 → 2 ^ h ≤ n * n
flat_by a b n k h p q e f =
    let more : 2 ^ h ≡ 2 ^ k * 2 * 2 = ap (λ (i : ℕ). 2 ^ i) f ∙ pow_more 2 (k + 1) ∙ ap (λ (i : ℕ). i * 2) (pow_more 2 k) in
    let all : n * n ≡ (a + b) * (a + b) = ap (λ (i : ℕ). i * i) e in
    omega (arith, more, all, four_times a b (2 ^ k) p q)

flat_low : (n h : ℕ) → 2 ≤ n → h ≡ 1 → 2 ^ h ≤ n * n
flat_low n h p e = let some : 2 * 2 ≤ n * n = mul-le 2 2 n n p p in omega (arith, ap (λ (i : ℕ). 2 ^ i) e, some)

-- a node is as flat as its sides are
pub flat_node : (a b n hl hr h : ℕ) → 2 ^ hl ≤ a * a → 2 ^ hr ≤ b * b → 1 ≤ a → 1 ≤ b → DifferByAtMost 1 hl hr → n ≡ a + b → h ≡ max hl hr + 1 → 2 ^ h ≤ n * n
flat_node a b n zero hr h p q one_a one_b d e f = elim (cases_lt hr 1) [
  | inl less ↦ flat_low n h (omega (arith, e, one_a, one_b)) (omega (arith, f, less))
  | inr more ↦ flat_by a b n 0 h (omega (arith, p)) (omega (arith, q, pow_mono {i = 0} {j = hr} (omega arith))) e (omega (arith, f, more, d.1))
]
flat_node a b n (suc k) hr h p q one_a one_b d e f = elim (cases_lt (suc k) hr) [
  | inl less ↦ flat_by a b n (suc k) h p (omega (arith, q, pow_mono {i = suc k} {j = hr} (omega (arith, less)))) e (omega (arith, f, less, d.1))
  | inr more ↦ flat_by a b n k h (omega (arith, p, pow_mono {i = k} {j = suc k} (omega arith))) (omega (arith, q, pow_mono {i = k} {j = hr} (omega (arith, d.0)))) e (omega (arith, f, more))
]

-- few terms have few levels
pub low : (held : List Held) (h : ℕ) → IsFlat held h → length held < 2 ^ 31 → h < 63
low held h flat few = elim (cases_lt h 63) [
  | inl less ↦ less
  | inr more ↦
      let all : (length held + 1) * (length held + 1) ≤ 2 ^ 31 * 2 ^ 31 = mul-le (length held + 1) (length held + 1) (2 ^ 31) (2 ^ 31) (omega (arith, few)) (omega (arith, few)) in
      let big : 2 ^ 63 ≤ 2 ^ h = pow_mono more in
      absurd (omega (arith, all, big, flat))
]

-- one side grew by a level at most
pub grows : (l r new h old : ℕ) → DifferByAtMost 1 l r → l ≤ new → new ≤ l + 1 → Settles new r h → old ≡ max l r + 1 → (old ≤ h) × (h ≤ old + 1)
grows l r new h old d p q s e = elim (cases_lt (r + 1) new) [
  | inl less ↦ (omega (arith, s.at_least, less, d.0, d.1, e, q), omega (arith, s.at_most, e, q, d.0, d.1))
  | inr more ↦ let now = s.level (more, omega (arith, d.1, p)) in (omega (arith, now, e, p), omega (arith, now, e, q))
]

-- one side lost a level at most
pub shrinks : (l r new h old : ℕ) → DifferByAtMost 1 l r → new ≤ l → l ≤ new + 1 → Settles new r h → old ≡ max l r + 1 → (h ≤ old) × (old ≤ h + 1)
shrinks l r new h old d p q s e = elim (cases_lt (new + 1) r) [
  | inl less ↦ (omega (arith, s.at_most, less, d.0, d.1, e, q, p), omega (arith, s.at_least, e, q, d.0, d.1))
  | inr more ↦ let now = s.level (omega (arith, d.0, p), more) in (omega (arith, now, e, p), omega (arith, now, e, q))
]

-- the other way round
pub settles-flip : (l r h : ℕ) → Settles l r h → Settles r l h
settles-flip l r h s = record { at_least = omega (arith, s.at_least); at_most = omega (arith, s.at_most); level = λ d. omega (arith, s.level (d.1, d.0)) }
