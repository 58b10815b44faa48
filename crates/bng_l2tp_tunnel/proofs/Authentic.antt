-- A tunnel comes to be established only by an SCCCN that answers its Challenge.
use Rattle.std.proofs.Common.{◌≡◌, ℕ, Bool, true, false, ◌&&◌, cond, Option, None, Some, List, refl}
use Rattle.bng_l2tp_reliable.specs.declared.answers.Heard.{Heard}
use Rattle.bng_l2tp_reliable.specs.declared.answers.Heard.TheVariants.{Deliver, Repeat, Ahead, Acked}
use Rattle.bng_l2tp_wire.specs.Messages.{ControlMessage}
use Rattle.bng_l2tp_wire.specs.declared.message.TheConstants.{SCCCN, STOP_CCN}
use Rattle.bng_l2tp_tunnel.specs.declared.acknowledging.Acknowledging.TheVariants.{ByZlb}
use Rattle.bng_l2tp_tunnel.specs.declared.phase.TunnelPhase.{TunnelPhase}
use Rattle.bng_l2tp_tunnel.specs.declared.phase.TunnelPhase.TheVariants.{Idle, Replied, Established, Cleared}
use Rattle.bng_l2tp_tunnel.specs.TunnelState.{TunnelState}
use Rattle.bng_l2tp_tunnel.specs.declared.refusal.TunnelRefusal.{TunnelRefusal}
use Rattle.bng_l2tp_wire.specs.Values.{message_type}
use Rattle.bng_l2tp_wire.specs.Judge.{is_type}
use Rattle.bng_l2tp_tunnel.specs.Messages.{is_of_call}
use Rattle.bng_l2tp_tunnel.specs.Refusals.{fails_challenge, refusal_of}
use Rattle.bng_l2tp_tunnel.specs.Steps.{nothing, is_established, flushed, clears, opened_by, begins, opening, handed_over, ended, established, accepted, judged, heard, heard_by, having_heard, hearing, in_phase, message_step}
use Rattle.bng_l2tp_tunnel.proofs.Refused.{passed, answers}
use Rattle.bng_l2tp_tunnel.specs.Sound.{IsAnswerOf}

module _ (s : TunnelState) (m : ControlMessage) where
  accepted_authentic : fails_challenge s.secret s.challenge (message_type m.avps) m.avps ≡ false → (accepted s (message_type m.avps)).said.established ≡ true → IsAnswerOf s m
  accepted_authentic f e =
      first (is_type (message_type m.avps) SCCCN) refl (is_type (message_type m.avps) STOP_CCN) e
    where
      first : (a : Bool) → is_type (message_type m.avps) SCCCN ≡ a → (b : Bool) → (cond a (established (flushed ByZlb s)) (cond b (ended s) (flushed ByZlb s))).said.established ≡ true → IsAnswerOf s m
      first true q b e = answers s m q f
      first false q true e = absurd cc
      first false q false e = absurd cc

  judged_authentic : (now : ℕ) (r : Option TunnelRefusal) → refusal_of s m.avps ≡ r → (judged s (message_type m.avps) now r).said.established ≡ true → IsAnswerOf s m
  judged_authentic now None q e = accepted_authentic (passed s m.avps q).authorized e
  judged_authentic now (Some refusal) q e = absurd cc

  heard_authentic : (now : ℕ) (answer : Heard) → (heard s m.avps now answer).said.established ≡ true → IsAnswerOf s m
  heard_authentic now Deliver e =
      by (is_established s.phase && is_of_call (message_type m.avps)) e
    where
      by : (b : Bool) → (cond b (handed_over s) (judged s (message_type m.avps) now (refusal_of s m.avps))).said.established ≡ true → IsAnswerOf s m
      by true e = absurd cc
      by false e = judged_authentic now (refusal_of s m.avps) refl e
  heard_authentic now Repeat e = absurd cc
  heard_authentic now Ahead e = absurd cc
  heard_authentic now Acked e = absurd cc

opened_none : (s : TunnelState) (m : ControlMessage) (random : List ℕ) (now : ℕ) → (opening s m random now).said.established ≡ false
opened_none s m random now =
    by (begins m) (refusal_of s m.avps)
  where
    by : (b : Bool) (r : Option TunnelRefusal) → (cond b (opened_by s m random now r) (clears (nothing s))).said.established ≡ false
    by true None = refl
    by true (Some refusal) = refl
    by false r = refl

-- a tunnel comes to be established only by an answer to its Challenge
pub message_authentic : (s : TunnelState) (m : ControlMessage) (random : List ℕ) (now : ℕ) → (message_step s m random now).said.established ≡ true → IsAnswerOf s m
unfolding message_step
message_authentic s m random now e =
    by_phase s.phase e
  where
    heard_now : (hearing s m now).said.established ≡ true → IsAnswerOf s m
    heard_now e = let x = heard_authentic (having_heard s m now) m now (heard_by s m) e in record { type = x.type; answer = x.answer }

    by_phase : (p : TunnelPhase) → (in_phase p s m random now).said.established ≡ true → IsAnswerOf s m
    by_phase Idle e = absurd (let no = opened_none s m random now in cc)
    by_phase Replied e = heard_now e
    by_phase Established e = heard_now e
    by_phase Cleared e = absurd cc
