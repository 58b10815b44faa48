-- Steps that answer by a text.
use Rattle.std.proofs.Common.{◌≡◌, ℕ, true, List, ap, ◌∙◌}
use Rattle.bng_l2tp_tunnel.specs.declared.acknowledging.Acknowledging.{Acknowledging}
use Rattle.bng_l2tp_wire.specs.View.{Said}
use Rattle.bng_lac.specs.LacState.{LacState}
use Rattle.bng_lac.specs.Steps.{queued_text, cleared as cleared_of, clears}

module _ (acknowledging : Acknowledging) (s : LacState) (now : ℕ) where
  pub said_by : (text wanted : List ℕ) (said : Said) → said ≡ (queued_text acknowledging s text now).said → text ≡ wanted → said ≡ (queued_text acknowledging s wanted now).said
  said_by text wanted said e f = e ∙ ap (λ (t : List ℕ). (queued_text acknowledging s t now).said) f

  pub after_by : (text wanted : List ℕ) (after : LacState) → after ≡ (queued_text acknowledging s text now).after → text ≡ wanted → after ≡ (queued_text acknowledging s wanted now).after
  after_by text wanted after e f = e ∙ ap (λ (t : List ℕ). (queued_text acknowledging s t now).after) f

  -- with a text that clears the tunnel
  pub clears_said : (text wanted : List ℕ) (step cleared : Said) → cleared ≡ record step { cleared = true } → step ≡ (queued_text acknowledging s text now).said → text ≡ wanted
      → cleared ≡ (clears (queued_text acknowledging s wanted now)).said
  clears_said text wanted step cleared c e f = c ∙ ap (λ (x : Said). record x { cleared = true }) (said_by text wanted step e f)

  pub clears_after : (text wanted : List ℕ) (before after : LacState) → after ≡ cleared_of before → before ≡ (queued_text acknowledging s text now).after → text ≡ wanted
      → after ≡ (clears (queued_text acknowledging s wanted now)).after
  clears_after text wanted before after c e f = c ∙ ap cleared_of (after_by text wanted before e f)
