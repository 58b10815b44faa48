-- So many tokens one by one are one sum.
use Rattle.std.proofs.Common.{◌≡◌, ℕ, zero, suc, ◌+◌, ◌-◌, ◌<◌, ◌≤◌, min, cond, nat_lt, ap, ◌∙◌, arith, lt-ltb, le-ltb}
use Rattle.std.proofs.Math.Nat.{min-eq_left, min-eq_right}
use mathlib.Core.Logic.{dite}
use native.Mathlib.Decide.{dec_le}
use Rattle.bng_meter.specs.Bucket.{Buckets, with_token, with_tokens}

-- the buckets with these counts
abbrev pub holding : Buckets → ℕ → ℕ → Buckets
holding b c e = record b { committed = c; excess = e }

-- one token into the committed bucket, into the excess bucket, and into none
one_committed : (b : Buckets) (c e : ℕ) → c < b.rate.cbs → with_token (holding b c e) ≡ holding b (c + 1) e
one_committed b c e low = ap (λ t. cond t (holding b (c + 1) e) (cond (nat_lt e b.rate.ebs) (holding b c (e + 1)) (holding b c e))) (lt-ltb c b.rate.cbs low)

one_excess : (b : Buckets) (c e : ℕ) → b.rate.cbs ≤ c → e < b.rate.ebs → with_token (holding b c e) ≡ holding b c (e + 1)
one_excess b c e full low = ap (λ t. cond t (holding b (c + 1) e) (cond (nat_lt e b.rate.ebs) (holding b c (e + 1)) (holding b c e))) (le-ltb c b.rate.cbs full)
    ∙ ap (λ t. cond t (holding b c (e + 1)) (holding b c e)) (lt-ltb e b.rate.ebs low)

none_more : (b : Buckets) (c e : ℕ) → b.rate.cbs ≤ c → b.rate.ebs ≤ e → with_token (holding b c e) ≡ holding b c e
none_more b c e full high = ap (λ t. cond t (holding b (c + 1) e) (cond (nat_lt e b.rate.ebs) (holding b c (e + 1)) (holding b c e))) (le-ltb c b.rate.cbs full)
    ∙ ap (λ t. cond t (holding b c (e + 1)) (holding b c e)) (le-ltb e b.rate.ebs high)

min_low : (a b : ℕ) → a ≤ b → min a b ≡ a
min_low a b h = min-eq_left h

min_high : (a b : ℕ) → b ≤ a → min a b ≡ b
min_high a b h = min-eq_right h

pub summed : (n : ℕ) (b : Buckets) → b.committed ≤ b.rate.cbs → b.excess ≤ b.rate.ebs → with_tokens n b ≡ holding b (min (b.committed + n) b.rate.cbs) (min (b.excess + (n - (b.rate.cbs - b.committed))) b.rate.ebs)
summed zero b low room = let c = min_low (b.committed + 0) b.rate.cbs (omega arith) in let e = min_low (b.excess + (0 - (b.rate.cbs - b.committed))) b.rate.ebs (omega arith) in
    let same_c : b.committed ≡ min (b.committed + 0) b.rate.cbs = omega arith in let same_e : b.excess ≡ min (b.excess + (0 - (b.rate.cbs - b.committed))) b.rate.ebs = omega arith in λ i. holding b (same_c i) (same_e i)
summed (suc n) b low room =
    let c : ℕ = min (b.committed + n) b.rate.cbs in let e : ℕ = min (b.excess + (n - (b.rate.cbs - b.committed))) b.rate.ebs in
    let c' : ℕ = min (b.committed + suc n) b.rate.cbs in let e' : ℕ = min (b.excess + (suc n - (b.rate.cbs - b.committed))) b.rate.ebs in
    let before : with_tokens n b ≡ holding b c e = summed n b low room in
    ap with_token before ∙ dite (dec_le b.rate.cbs (b.committed + n))
    (λ full. let here = min_high (b.committed + n) b.rate.cbs full in let there = min_high (b.committed + suc n) b.rate.cbs (omega arith) in let c_is : c ≡ c' = omega arith in
    dite (dec_le b.rate.ebs (b.excess + (n - (b.rate.cbs - b.committed))))
    (λ high. let x = min_high (b.excess + (n - (b.rate.cbs - b.committed))) b.rate.ebs high in let y = min_high (b.excess + (suc n - (b.rate.cbs - b.committed))) b.rate.ebs (omega arith) in let e_is : e ≡ e' = omega arith in
    none_more b c e (omega arith) (omega arith) ∙ (λ i. holding b (c_is i) (e_is i)))
    (λ under. let x = min_low (b.excess + (n - (b.rate.cbs - b.committed))) b.rate.ebs (omega arith) in let y = min_low (b.excess + (suc n - (b.rate.cbs - b.committed))) b.rate.ebs (omega arith) in let e_is : e + 1 ≡ e' = omega arith in
    one_excess b c e (omega arith) (omega arith) ∙ (λ i. holding b (c_is i) (e_is i))))
    (λ under. let here = min_low (b.committed + n) b.rate.cbs (omega arith) in let there = min_low (b.committed + suc n) b.rate.cbs (omega arith) in let c_is : c + 1 ≡ c' = omega arith in
    let x = min_low (b.excess + (n - (b.rate.cbs - b.committed))) b.rate.ebs (omega arith) in let y = min_low (b.excess + (suc n - (b.rate.cbs - b.committed))) b.rate.ebs (omega arith) in let e_is : e ≡ e' = omega arith in
    one_committed b c e (omega arith) ∙ (λ i. holding b (c_is i) (e_is i)))
