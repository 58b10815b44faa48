-- The timers of a shard's tunnels, one after another.
use Rattle.std.proofs.Common.{◌≡◌, ℕ, ◌+◌, suc, List, [], ◌++◌, refl, sym, subst, ◌∙◌, append_assoc, append-nil, arith, add-zero, zero-add}
use Rattle.bng_base.specs.declared.item.At.{At}
use Rattle.bng_base.specs.declared.item.OutRecord.{OutRecord}
use Rattle.bng_steps.specs.State.{State}
use Rattle.bng_steps.specs.Timed.{RemindedAt, RemindedInTurn}
use Rattle.bng_steps.specs.Timers.{Reminds}
use Rattle.bng_steps.proofs.Timing.{more_sent}

-- those at so many places did, and the rest may go on
pub record RemindsOn (n : ℕ) (a : At) (now : ℕ) (s₀ s : State) (outs₀ outs : List OutRecord) : Type 0 where
  pub sent : List OutRecord
  pub outs_are : outs ≡ outs₀ ++ sent
  pub go_on : (m : ℕ) (more : List OutRecord) (s' : State) → Reminds m n a now s more s' → Reminds (n + m) 0 a now s₀ (sent ++ more) s'

pub reminds_begin : (a : At) (now : ℕ) (s : State) (outs : List OutRecord) → RemindsOn 0 a now s s outs outs
reminds_begin a now s outs = record {
  sent = [];
  outs_are = sym (append-nil outs);
  go_on = λ m more s' h. subst (λ (k : ℕ). Reminds k 0 a now s more s') (sym (zero-add m)) h;
}

module _ (a : At) (now : ℕ) (s₀ s : State) (outs₀ outs : List OutRecord) (n : ℕ) where
  pub reminds_more : (s₁ : State) (outs₁ : List OutRecord) → RemindsOn n a now s₀ s outs₀ outs → RemindedAt n a now s s₁ outs outs₁ → RemindsOn (n + 1) a now s₀ s₁ outs₀ outs₁
  reminds_more s₁ outs₁ on told = record {
    sent = on.sent ++ told.more;
    outs_are = more_sent outs₀ on.sent outs told.more outs₁ on.outs_are told.outs_are;
    go_on = λ m more s' h.
        let once : Reminds (suc m) n a now s (told.more ++ more) s' = (told.more, s₁, told.reminds, more, h, refl) in
        let all = on.go_on (suc m) (told.more ++ more) s' once in
        let count : n + suc m ≡ n + 1 + m = omega arith in
        subst (λ (outs' : List OutRecord). Reminds (n + 1 + m) 0 a now s₀ outs' s') (sym (append_assoc on.sent told.more more))
        (subst (λ (k : ℕ). Reminds k 0 a now s₀ (on.sent ++ (told.more ++ more)) s') count all);
  }

  pub reminds_done : n ≡ 16 → RemindsOn n a now s₀ s outs₀ outs → RemindedInTurn a now s₀ s outs₀ outs
  reminds_done all on = record {
    more = on.sent;
    reminds = subst (λ (k : ℕ). Reminds k 0 a now s₀ on.sent s) (add-zero n ∙ all)
        (subst (λ (outs' : List OutRecord). Reminds (n + 0) 0 a now s₀ outs' s) (append-nil on.sent) (on.go_on 0 [] s (refl, refl)));
    outs_are = on.outs_are;
  }
