-- The calls of a tunnel that was cleared end one after another.
use Rattle.std.proofs.Common.{◌≡◌, ◌≤◌, ◌+◌, ◌-◌, ◌*◌, ◌∙◌, ℕ, zero, suc, sym, ap, arith, add-zero}
use Rattle.std.specs.Prelude.{fold}
use Rattle.std.specs.List.{range_with_len}
use Rattle.bng_steps.specs.Cutting.{cut_at, cut_off, numbers_most}
use Rattle.bng_steps.specs.State.{State}

most_is : (k : ℕ) → k ≡ 1022 → k ≡ numbers_most
unfolding numbers_most
most_is k e = e

-- one number more
fold_more : (f : State → ℕ → State) (s : State) (first k : ℕ) → fold f s (range_with_len first (suc k)) ≡ f (fold f s (range_with_len first k)) (first + k)
fold_more f s first zero = ap (f s) (sym (add-zero first))
fold_more f s first (suc k) =
    let place : first + 1 + k ≡ first + suc k = omega arith in
    fold_more f (f s first) (first + 1) k ∙ ap (f (fold f (f s first) (range_with_len (first + 1) k))) place

module _ (tunnel first n : ℕ) (s₀ s : State) where
  pub cuts_begin : n ≡ first → s ≡ s₀ → s ≡ fold (cut_at tunnel) s₀ (range_with_len first (n - first))
  cuts_begin e same =
      let none : 0 ≡ n - first = omega arith in
      same ∙ ap (λ (k : ℕ). fold (cut_at tunnel) s₀ (range_with_len first k)) none

  pub cuts_more : (s₁ : State) → first ≤ n → s ≡ fold (cut_at tunnel) s₀ (range_with_len first (n - first)) → s₁ ≡ cut_at tunnel s n → s₁ ≡ fold (cut_at tunnel) s₀ (range_with_len first (n + 1 - first))
  cuts_more s₁ low before next =
      let count : suc (n - first) ≡ n + 1 - first = omega arith in
      let place : n ≡ first + (n - first) = omega arith in
      next ∙ ap (λ (q : State). cut_at tunnel q n) before
      ∙ ap (cut_at tunnel (fold (cut_at tunnel) s₀ (range_with_len first (n - first)))) place
      ∙ sym (fold_more (cut_at tunnel) s₀ first (n - first))
      ∙ ap (λ (k : ℕ). fold (cut_at tunnel) s₀ (range_with_len first k)) count

  pub cuts_done : first ≡ s₀.sessions.shard * 1024 + 1 → n ≡ first + 1022 → s ≡ fold (cut_at tunnel) s₀ (range_with_len first (n - first)) → s ≡ cut_off tunnel s₀
  unfolding cut_off
  cuts_done from all before =
      let count : n - first ≡ 1022 = omega arith in
      before ∙ ap (λ (k : ℕ). fold (cut_at tunnel) s₀ (range_with_len k (n - first))) from
      ∙ ap (λ (k : ℕ). fold (cut_at tunnel) s₀ (range_with_len (s₀.sessions.shard * 1024 + 1) k)) (most_is (n - first) count)
