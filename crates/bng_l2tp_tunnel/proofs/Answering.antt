-- Steps that answer by a text.
use Rattle.std.proofs.Common.{◌≡◌, ℕ, true, List, sym, ap, ◌∙◌}
use Rattle.bng_l2tp_reliable.specs.declared.answers.Heard.{Heard}
use Rattle.bng_l2tp_reliable.specs.declared.answers.Heard.TheVariants.{Deliver}
use Rattle.bng_l2tp_wire.specs.Avps.{L2tpAvp}
use Rattle.bng_l2tp_wire.specs.Messages.{ControlMessage}
use Rattle.bng_l2tp_tunnel.specs.declared.acknowledging.Acknowledging.{Acknowledging}
use Rattle.bng_l2tp_tunnel.specs.declared.phase.TunnelPhase.TheVariants.{Cleared}
use Rattle.bng_l2tp_wire.specs.View.{Said}
use Rattle.bng_l2tp_tunnel.specs.TunnelState.{TunnelState}
use Rattle.bng_l2tp_tunnel.specs.Steps.{queued_text, clears, delivered, heard, heard_by, having_heard, hearing}

module _ (acknowledging : Acknowledging) (s : TunnelState) (now : ℕ) where
  pub said_by : (text wanted : List ℕ) (said : Said) → said ≡ (queued_text acknowledging s text now).said → text ≡ wanted → said ≡ (queued_text acknowledging s wanted now).said
  said_by text wanted said e f = e ∙ ap (λ (t : List ℕ). (queued_text acknowledging s t now).said) f

  pub after_by : (text wanted : List ℕ) (after : TunnelState) → after ≡ (queued_text acknowledging s text now).after → text ≡ wanted → after ≡ (queued_text acknowledging s wanted now).after
  after_by text wanted after e f = e ∙ ap (λ (t : List ℕ). (queued_text acknowledging s t now).after) f

  -- with a text that clears the tunnel
  pub clears_said : (text wanted : List ℕ) (step cleared : Said) → cleared ≡ record step { cleared = true } → step ≡ (queued_text acknowledging s text now).said → text ≡ wanted
      → cleared ≡ (clears (queued_text acknowledging s wanted now)).said
  clears_said text wanted step cleared c e f = c ∙ ap (λ (x : Said). record x { cleared = true }) (said_by text wanted step e f)

  pub clears_after : (text wanted : List ℕ) (before after : TunnelState) → after ≡ record before { phase = Cleared } → before ≡ (queued_text acknowledging s text now).after → text ≡ wanted
      → after ≡ (clears (queued_text acknowledging s wanted now)).after
  clears_after text wanted before after c e f = c ∙ ap (λ (x : TunnelState). record x { phase = Cleared }) (after_by text wanted before e f)

-- a message that the channel delivers
module _ (s : TunnelState) (m : ControlMessage) (now : ℕ) where
  pub delivers_said : (d : TunnelState) (avps : List L2tpAvp) (said : Said) → said ≡ (delivered d avps now).said → d ≡ having_heard s m now → avps ≡ m.avps → heard_by s m ≡ Deliver
      → said ≡ (hearing s m now).said
  delivers_said d avps said e f g h =
      e ∙ ap (λ (t : TunnelState). (heard t avps now Deliver).said) f ∙ ap (λ (a : List L2tpAvp). (heard (having_heard s m now) a now Deliver).said) g
      ∙ ap (λ (answer : Heard). (heard (having_heard s m now) m.avps now answer).said) (sym h)

  pub delivers_after : (d : TunnelState) (avps : List L2tpAvp) (after : TunnelState) → after ≡ (delivered d avps now).after → d ≡ having_heard s m now → avps ≡ m.avps
      → heard_by s m ≡ Deliver → after ≡ (hearing s m now).after
  delivers_after d avps after e f g h =
      e ∙ ap (λ (t : TunnelState). (heard t avps now Deliver).after) f ∙ ap (λ (a : List L2tpAvp). (heard (having_heard s m now) a now Deliver).after) g
      ∙ ap (λ (answer : Heard). (heard (having_heard s m now) m.avps now answer).after) (sym h)
