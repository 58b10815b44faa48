-- What the shards get of the terms for which there is room is no more than that.
use Rattle.std.proofs.Common.{◌≡◌, ℕ, suc, ◌+◌, ◌-◌, ◌*◌, ◌/◌, ◌%◌, ◌<◌, ◌≤◌, Bool, true, false, cond, [], ◌∷◌, length, get_or, ltb, refl, ap, arith}
use Rattle.std.specs.List.{AllZip, sum_by}
use Rattle.std.proofs.lemmas.Bool.Decides.{nat_tests}
use Rattle.std.proofs.lemmas.List.Sums.{sum_by-cons}
use Rattle.std.proofs.Math.Nat.{suc-mul}
use Rattle.bng_base.specs.declared.item.Entry.{Entry}
use Rattle.bng_engine.specs.Calls.{IsReady}
use Rattle.bng_engine.specs.Views.{ShardView}
use Rattle.bng_steps.specs.Protocol.{ShardState}
use Rattle.bng_desk.specs.Allowing.{share_of, allowance_of}
use Rattle.bng_desk.specs.Taking.{AreInOrder}
use Rattle.bng_desk.proofs.Readying.{Shards}

-- one more where the number is low
one_left : (left i : ℕ) → cond (ltb i left) 1 0 + (left - (i + 1)) ≤ left - i
one_left left i = by (ltb i left) refl
  where
    by : (b : Bool) → ltb i left ≡ b → cond b 1 0 + (left - (i + 1)) ≤ left - i
    by true e = let lt : i < left = grind (arith, nat_tests) in omega (arith, lt)
    by false e = omega arith

-- the shares of the shards from this number on
shares_from : (free n i : ℕ) (vs : Shards) → ((k : ℕ) (d : ShardView ShardState Entry) → k < length vs → (get_or vs k d).number ≡ i + k) → sum_by (allowance_of free n) vs ≤ length vs * (free / n) + (free % n - i)
shares_from free n i [] order = omega arith
shares_from free n i (v ∷ vs) order =
    let q = free / n in
    let left = free % n in
    let number : v.number ≡ i = omega (arith, order 0 v (omega arith)) in
    let more = shares_from free n (i + 1) vs (λ k d lt. omega (arith, order (suc k) d (omega (arith, lt)))) in
    let share : share_of free n v.number ≡ q + cond (ltb i left) 1 0 = ap (share_of free n) number in
    let here : allowance_of free n v ≤ share_of free n v.number = omega arith in
    omega (arith, sum_by-cons (allowance_of free n) v vs, more, share, here, one_left left i, suc-mul (length vs) q)

-- in all they are no more than there is room for
pub shares_few : (free : ℕ) (vs : Shards) → 1 ≤ length vs → AreInOrder vs → sum_by (allowance_of free (length vs)) vs ≤ free
shares_few free vs some order =
    let n = length vs in
    let all = shares_from free n 0 vs (λ k d lt. omega (arith, order k d lt)) in
    omega (arith, all, some)

-- and so are the allowances of shards that were made ready with them
pub allowed_sum : (items free n : ℕ) (vs ws : Shards) → AllZip (λ v w. IsReady items (allowance_of free n v) w) vs ws → sum_by (λ v. v.allowance) ws ≡ sum_by (allowance_of free n) vs
allowed_sum items free n [] [] z = refl
allowed_sum items free n [] (w ∷ ws) z = absurd z
allowed_sum items free n (v ∷ vs) [] z = absurd z
allowed_sum items free n (v ∷ vs) (w ∷ ws) z =
    omega (arith, sum_by-cons (λ (x : ShardView ShardState Entry). x.allowance) w ws, sum_by-cons (allowance_of free n) v vs, z.0.allowance_is, allowed_sum items free n vs ws z.1)
