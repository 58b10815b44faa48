-- A tunnel keeps its rules, its number and its peer.
use Rattle.std.proofs.Common.{◌≡◌, ℕ, Bool, true, false, ◌&&◌, cond, Option, None, Some, List, refl}
use Rattle.bng_l2tp_reliable.specs.declared.answers.Heard.{Heard}
use Rattle.bng_l2tp_reliable.specs.declared.answers.Heard.TheVariants.{Deliver, Repeat, Ahead, Acked}
use Rattle.bng_l2tp_reliable.specs.declared.answers.Due.{Due}
use Rattle.bng_l2tp_reliable.specs.declared.answers.Due.TheVariants.{Nothing, Resend, Hello, GiveUp}
use Rattle.bng_l2tp_reliable.specs.Timers.{after_due, due_of}
use Rattle.bng_l2tp_wire.specs.Avps.{L2tpAvp}
use Rattle.bng_l2tp_wire.specs.Messages.{ControlMessage}
use Rattle.bng_l2tp_wire.specs.declared.message.TheConstants.{SCCCN, STOP_CCN}
use Rattle.bng_l2tp_tunnel.specs.declared.acknowledging.Acknowledging.TheVariants.{Never, ByZlb}
use Rattle.bng_l2tp_tunnel.specs.declared.phase.TunnelPhase.{TunnelPhase}
use Rattle.bng_l2tp_tunnel.specs.declared.phase.TunnelPhase.TheVariants.{Idle, Replied, Established, Cleared}
use Rattle.bng_l2tp_tunnel.specs.TunnelState.{TunnelState, lasting_of}
use Rattle.bng_l2tp_tunnel.specs.declared.refusal.TunnelRefusal.{TunnelRefusal}
use Rattle.bng_l2tp_wire.specs.Values.{message_type}
use Rattle.bng_l2tp_wire.specs.Judge.{is_type}
use Rattle.bng_l2tp_tunnel.specs.Messages.{is_of_call}
use Rattle.bng_l2tp_tunnel.specs.Refusals.{refusal_of}
use Rattle.bng_l2tp_tunnel.specs.Spelling.{stop_ccn, shut_down}
use Rattle.bng_l2tp_tunnel.specs.Steps.{Step, nothing, stands, is_established, flushed, queued_text, answered, clears, opened_by, begins, opening, handed_over, ended, established, accepted, judged, delivered, heard, heard_by, having_heard, in_phase, message_step, reminded, due_step, send_step, stop_step}

module _ (s : TunnelState) where
  accepted_keeps : (type : Option ℕ) → lasting_of (accepted s type).after ≡ lasting_of s
  accepted_keeps type =
      by (is_type type SCCCN) (is_type type STOP_CCN)
    where
      by : (a b : Bool) → lasting_of (cond a (established (flushed ByZlb s)) (cond b (ended s) (flushed ByZlb s))).after ≡ lasting_of s
      by true b = refl
      by false true = refl
      by false false = refl

  judged_keeps : (type : Option ℕ) (now : ℕ) (r : Option TunnelRefusal) → lasting_of (judged s type now r).after ≡ lasting_of s
  judged_keeps type now None = accepted_keeps type
  judged_keeps type now (Some refusal) = refl

  delivered_keeps : (avps : List L2tpAvp) (now : ℕ) → lasting_of (delivered s avps now).after ≡ lasting_of s
  delivered_keeps avps now =
      elim (is_established s.phase && is_of_call (message_type avps)) as (λ b. lasting_of (cond b (handed_over s) (judged s (message_type avps) now (refusal_of s avps))).after ≡ lasting_of s)
      [ true ↦ refl | false ↦ judged_keeps (message_type avps) now (refusal_of s avps) ]

  heard_keeps : (avps : List L2tpAvp) (now : ℕ) (answer : Heard) → lasting_of (heard s avps now answer).after ≡ lasting_of s
  heard_keeps avps now Deliver = delivered_keeps avps now
  heard_keeps avps now Repeat = refl
  heard_keeps avps now Ahead = refl
  heard_keeps avps now Acked = refl

  opening_keeps : (m : ControlMessage) (random : List ℕ) (now : ℕ) → lasting_of (opening s m random now).after ≡ lasting_of s
  opening_keeps m random now =
      by (begins m) (refusal_of s m.avps)
    where
      by : (b : Bool) (r : Option TunnelRefusal) → lasting_of (cond b (opened_by s m random now r) (clears (nothing s))).after ≡ lasting_of s
      by true None = refl
      by true (Some refusal) = refl
      by false r = refl

  reminded_keeps : (now : ℕ) (due : Due) → lasting_of (reminded s now due).after ≡ lasting_of s
  reminded_keeps now Nothing = refl
  reminded_keeps now Resend = refl
  reminded_keeps now Hello = refl
  reminded_keeps now GiveUp = refl

  if_stands : (step : Step) → lasting_of step.after ≡ lasting_of s → lasting_of (cond (stands s.phase) step (nothing s)).after ≡ lasting_of s
  if_stands step h =
      elim (stands s.phase) as (λ b. lasting_of (cond b step (nothing s)).after ≡ lasting_of s) [ true ↦ h | false ↦ refl ]

pub message_keeps : (s : TunnelState) (m : ControlMessage) (random : List ℕ) (now : ℕ) → lasting_of (message_step s m random now).after ≡ lasting_of s
unfolding message_step
message_keeps s m random now =
    by_phase s.phase
  where
    by_phase : (p : TunnelPhase) → lasting_of (in_phase p s m random now).after ≡ lasting_of s
    by_phase Idle = opening_keeps s m random now
    by_phase Replied = heard_keeps (having_heard s m now) m.avps now (heard_by s m)
    by_phase Established = heard_keeps (having_heard s m now) m.avps now (heard_by s m)
    by_phase Cleared = refl

pub due_keeps : (s : TunnelState) (now : ℕ) → lasting_of (due_step s now).after ≡ lasting_of s
unfolding due_step
due_keeps s now =
    let after = record s { channel = after_due s.channel now (due_of s.channel now) } in
    if_stands s (reminded after now (due_of s.channel now)) (reminded_keeps after now (due_of s.channel now))

pub send_keeps : (s : TunnelState) (text : List ℕ) (now : ℕ) → lasting_of (send_step s text now).after ≡ lasting_of s
unfolding send_step
send_keeps s text now = if_stands s (queued_text Never s text now) refl

pub stop_keeps : (s : TunnelState) (now : ℕ) → lasting_of (stop_step s now).after ≡ lasting_of s
unfolding stop_step
stop_keeps s now = if_stands s (clears (answered Never s (stop_ccn s.number shut_down) now)) refl
