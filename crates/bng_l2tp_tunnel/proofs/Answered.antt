-- What is delivered or came again is acknowledged.
use Rattle.std.proofs.Common.{◌≡◌, ℕ, Bool, true, false, ◌&&◌, cond, Option, None, Some, List, [], ◌∷◌, length, map, sym, subst, ◌<◌, arith, length-append}
use Rattle.bng_l2tp_reliable.specs.declared.answers.Heard.{Heard}
use Rattle.bng_l2tp_reliable.specs.declared.answers.Heard.TheVariants.{Deliver, Repeat, Ahead, Acked}
use Rattle.bng_l2tp_reliable.specs.ChannelState.{ChannelState}
use Rattle.bng_l2tp_reliable.specs.Calls.{queued}
use Rattle.bng_l2tp_wire.specs.Avps.{L2tpAvp}
use Rattle.bng_l2tp_wire.specs.Messages.{ControlMessage, control_text}
use Rattle.bng_l2tp_wire.specs.declared.message.TheConstants.{SCCCN, STOP_CCN}
use Rattle.bng_l2tp_tunnel.specs.declared.acknowledging.Acknowledging.TheVariants.{ByAny, ByZlb}
use Rattle.bng_l2tp_tunnel.specs.declared.phase.TunnelPhase.{TunnelPhase}
use Rattle.bng_l2tp_tunnel.specs.declared.phase.TunnelPhase.TheVariants.{Idle, Replied, Established, Cleared}
use Rattle.bng_l2tp_tunnel.specs.TunnelState.{TunnelState}
use Rattle.bng_l2tp_tunnel.specs.Outs.{datagram, let_out, after_out, flight_most, zlb, or_zlb, with_zlb}
use Rattle.bng_l2tp_tunnel.specs.declared.refusal.TunnelRefusal.{TunnelRefusal}
use Rattle.bng_l2tp_wire.specs.Values.{message_type}
use Rattle.bng_l2tp_wire.specs.Judge.{is_type}
use Rattle.bng_l2tp_tunnel.specs.Messages.{is_of_call}
use Rattle.bng_l2tp_tunnel.specs.Refusals.{refusal_of}
use Rattle.bng_l2tp_tunnel.specs.Spelling.{stop_ccn, code_of}
use Rattle.bng_l2tp_tunnel.specs.Steps.{stands, is_established, to_peer, flushed, queued_text, handed_over, ended, established, accepted, judged, delivered, heard, heard_by, having_heard, in_phase, message_step}
use Rattle.bng_l2tp_tunnel.specs.Sound.{IsAnswered, is_delivered, is_for_call}

-- where a ZLB is due something goes out
pub any_some : (tunnel : ℕ) (c : ChannelState) (outs : List (List ℕ)) → 0 < length (or_zlb tunnel c outs)
any_some tunnel c [] = omega arith
any_some tunnel c (o ∷ os) = omega arith

some_zlb : (tunnel : ℕ) (c : ChannelState) (outs : List (List ℕ)) → 0 < length (with_zlb ByZlb tunnel c outs)
some_zlb tunnel c outs = omega (arith, length-append outs (zlb tunnel c ∷ []))

module _ (s : TunnelState) where
  flushed_some : 0 < length (flushed ByZlb s).said.outs
  flushed_some = some_zlb (to_peer s) (after_out flight_most s.channel) (map (datagram (to_peer s)) (let_out flight_most s.channel))

  queued_some : (text : List ℕ) (now : ℕ) → 0 < length (queued_text ByAny s text now).said.outs
  queued_some text now =
      let c = queued s.channel (record { items = text }) now in
      any_some (to_peer s) (after_out flight_most c) (map (datagram (to_peer s)) (let_out flight_most c))

  accepted_some : (type : Option ℕ) → 0 < length (accepted s type).said.outs
  accepted_some type =
      first (is_type type SCCCN) (is_type type STOP_CCN)
    where
      second : (b : Bool) → 0 < length (cond b (ended s) (flushed ByZlb s)).said.outs
      second true = omega arith
      second false = flushed_some

      first : (a b : Bool) → 0 < length (cond a (established (flushed ByZlb s)) (cond b (ended s) (flushed ByZlb s))).said.outs
      first true b = flushed_some
      first false b = second b

  judged_some : (type : Option ℕ) (now : ℕ) (r : Option TunnelRefusal) → 0 < length (judged s type now r).said.outs
  judged_some type now None = accepted_some type
  judged_some type now (Some refusal) = queued_some (control_text (stop_ccn s.number (code_of refusal))) now

  delivered_some : (avps : List L2tpAvp) (now : ℕ) → (is_established s.phase && is_of_call (message_type avps)) ≡ false → 0 < length (delivered s avps now).said.outs
  delivered_some avps now other =
      by (is_established s.phase && is_of_call (message_type avps)) other
    where
      by : (b : Bool) → b ≡ false → 0 < length (cond b (handed_over s) (judged s (message_type avps) now (refusal_of s avps))).said.outs
      by true other = absurd cc
      by false other = judged_some (message_type avps) now (refusal_of s avps)

  pub heard_answered : (avps : List L2tpAvp) (now : ℕ) (answer : Heard) → (is_established s.phase && (is_delivered answer && is_of_call (message_type avps))) ≡ false → IsAnswered answer (heard s avps now answer).said.outs
  heard_answered avps now Deliver other = delivered_some avps now other
  heard_answered avps now Repeat other = flushed_some
  heard_answered avps now Ahead other = tt
  heard_answered avps now Acked other = tt

-- a message to a tunnel that stands is answered, where it is not for a call
pub message_answered : (s : TunnelState) (m : ControlMessage) (random : List ℕ) (now : ℕ) → stands s.phase ≡ true → is_for_call s m ≡ false → IsAnswered (heard_by s m) (message_step s m random now).said.outs
unfolding message_step
message_answered s m random now e other =
    by_phase s.phase e
  where
    by_phase : (p : TunnelPhase) → stands p ≡ true → IsAnswered (heard_by s m) (in_phase p s m random now).said.outs
    by_phase Idle e = absurd cc
    by_phase Replied e = heard_answered (having_heard s m now) m.avps now (heard_by s m) other
    by_phase Established e = heard_answered (having_heard s m now) m.avps now (heard_by s m) other
    by_phase Cleared e = absurd cc

pub as_answered : (answer : Heard) (outs wanted : List (List ℕ)) → outs ≡ wanted → IsAnswered answer wanted → IsAnswered answer outs
as_answered answer outs wanted e h = subst (λ (os : List (List ℕ)). IsAnswered answer os) (sym e) h
