-- Each step of a tunnel is sound.
use Rattle.std.proofs.Common.{◌≢◌, ◌≡◌, ℕ, ◌==◌, Bool, true, false, ◌&&◌, not, cond, nat_lt, Option, None, Some, List, [], ◌∷◌, ◌++◌, length, map, refl, sym, ap, subst, ◌∙◌, ◌≤◌, option_map, slice_get, arith}
use Rattle.std.proofs.lemmas.List.{length-map}
use Rattle.std.specs.Prelude.{IsSome, unwrap_or}
use Rattle.std.specs.List.{AllByRecursion}
use Rattle.bng_l2tp_reliable.specs.declared.answers.Heard.{Heard}
use Rattle.bng_l2tp_reliable.specs.declared.answers.Heard.TheVariants.{Deliver, Repeat, Ahead, Acked}
use Rattle.bng_l2tp_reliable.specs.declared.answers.Due.{Due}
use Rattle.bng_l2tp_reliable.specs.declared.answers.Due.TheVariants.{Nothing, Resend, Hello, GiveUp}
use Rattle.bng_l2tp_reliable.specs.ChannelState.{ChannelState, Message, waiting, begun}
use Rattle.bng_l2tp_reliable.specs.Calls.{queued, received, acknowledged, numbered, next_out}
use Rattle.bng_l2tp_reliable.specs.Timers.{after_due, due_of}
use Rattle.bng_l2tp_reliable.specs.Flight.{sent_again}
use Rattle.bng_l2tp_wire.specs.Avps.{L2tpAvp}
use Rattle.bng_l2tp_wire.specs.Messages.{ControlMessage, control_text}
use Rattle.bng_l2tp_wire.specs.declared.kind.TheConstants.{CHALLENGE}
use Rattle.bng_l2tp_wire.specs.declared.message.TheConstants.{SCCRQ, SCCCN, STOP_CCN}
use Rattle.bng_l2tp_tunnel.specs.declared.acknowledging.Acknowledging.{Acknowledging}
use Rattle.bng_l2tp_tunnel.specs.declared.acknowledging.Acknowledging.TheVariants.{Never, ByAny, ByZlb}
use Rattle.bng_l2tp_tunnel.specs.declared.phase.TunnelPhase.{TunnelPhase}
use Rattle.bng_l2tp_tunnel.specs.declared.phase.TunnelPhase.TheVariants.{Idle, Replied, Established, Cleared}
use Rattle.bng_l2tp_tunnel.specs.TunnelState.{TunnelState}
use Rattle.bng_l2tp_wire.specs.View.{Said, sends}
use Rattle.bng_l2tp_tunnel.specs.Outs.{datagram, let_out, after_out, flight_most, zlb, with_zlb}
use Rattle.bng_l2tp_tunnel.specs.declared.refusal.TunnelRefusal.{TunnelRefusal}
use Rattle.bng_l2tp_wire.specs.Values.{value_of, message_type, assigned_tunnel, window_of}
use Rattle.bng_l2tp_wire.specs.Judge.{is_type}
use Rattle.bng_l2tp_tunnel.specs.Messages.{is_of_call, is_taken}
use Rattle.bng_l2tp_tunnel.specs.Refusals.{refusal_of}
use Rattle.bng_l2tp_tunnel.specs.Spelling.{sccrp, stop_ccn, hello, code_of, shut_down}
use Rattle.bng_l2tp_tunnel.specs.Steps.{Step, nothing, stands, is_established, to_peer, flushed, queued_text, answered, clears, turned_away, made, replied, opened_by, begins, opening, handed_over, ended, established, accepted, judged, delivered, heard, is_zlb, heard_by, having_heard, hearing, in_phase, message_step, reminded, due_step, send_step, stop_step}
use Rattle.bng_l2tp_tunnel.proofs.Refused.{passed, replied_if, has_tunnel, has_number}
use Rattle.bng_l2tp_tunnel.specs.Sound.{is_replied, is_cleared, IsSpelled, AreSpelled, IsTunnel, IsSentTo, IsSound}
use Rattle.bng_l2tp_tunnel.proofs.Texts.{AllByRecursion-append, AllByRecursion-drop, after_out-keeps, let_out_sent, flight_sent}
use Rattle.bng_l2tp_tunnel.proofs.Flights.{after_out-window, drained}

-- what is known of a tunnel whose channel just took a message's numbers
pub record IsReady (s : TunnelState) : Type 0 where
  pub spelled : AreSpelled s.channel.messages
  pub window : s.channel.window ≤ flight_most
  pub known : stands s.phase ≡ true → s.known ≡ true
  pub numbered : stands s.phase ≡ true → s.number ≢ 0
  pub addressed : stands s.phase ≡ true → IsSome s.peer_number

pub ready : (s : TunnelState) → IsTunnel s → IsReady s
ready s t = record { spelled = t.spelled; window = t.window; known = t.known; numbered = t.numbered; addressed = t.addressed }

-- what a step over a channel keeps
pub record IsGood (s : TunnelState) (step : Step) : Type 0 where
  pub spelled : AreSpelled step.after.channel.messages
  pub window : step.after.channel.window ≤ flight_most
  pub rules : (step.after.known ≡ s.known) × (step.after.number ≡ s.number)
  pub peer : step.after.peer_number ≡ s.peer_number
  pub outs : AllByRecursion (IsSentTo (to_peer s) step.after.channel.nr) step.said.outs

with_zlb_sent : (ack : Acknowledging) (tunnel : ℕ) (c : ChannelState) (outs : List (List ℕ)) → AllByRecursion (IsSentTo tunnel c.nr) outs → AllByRecursion (IsSentTo tunnel c.nr) (with_zlb ack tunnel c outs)
with_zlb_sent Never tunnel c outs h = h
with_zlb_sent ByAny tunnel c [] h = (record { message = record { tunnel = tunnel; session = 0; ns = c.ns; nr = c.nr; avps = [] }; text = refl; tunnel_is = refl; nr_is = refl }, tt)
with_zlb_sent ByAny tunnel c (o ∷ os) h = h
with_zlb_sent ByZlb tunnel c outs h =
    AllByRecursion-append (IsSentTo tunnel c.nr) outs (zlb tunnel c ∷ []) h (record { message = record { tunnel = tunnel; session = 0; ns = c.ns; nr = c.nr; avps = [] }; text = refl; tunnel_is = refl; nr_is = refl }, tt)

pub flushed_good : (ack : Acknowledging) (s : TunnelState) → AreSpelled s.channel.messages → s.channel.window ≤ flight_most → IsGood s (flushed ack s)
flushed_good ack s h w =
    let keeps = after_out-keeps flight_most s.channel in
    let sent = let_out_sent (to_peer s) s.channel h flight_most in
    record {
      spelled = subst (λ (ms : List Message). AreSpelled ms) (sym keeps.0) h;
      window = omega (arith, w, after_out-window flight_most s.channel);
      rules = (refl, refl);
      peer = refl;
      outs = with_zlb_sent ack (to_peer s) (after_out flight_most s.channel) (map (datagram (to_peer s)) (let_out flight_most s.channel))
          (subst (λ (nr : ℕ). AllByRecursion (IsSentTo (to_peer s) nr) (map (datagram (to_peer s)) (let_out flight_most s.channel))) (sym keeps.1) sent);
    }

queued_spelled : (c : ChannelState) (message : Message) (now : ℕ) → AreSpelled c.messages → IsSpelled message.items → AreSpelled (queued c message now).messages
queued_spelled c message now h k =
    elim (nat_lt (length (waiting c)) 64) as (λ b. AreSpelled (cond b (c.messages ++ message ∷ []) c.messages))
    [ true ↦ AllByRecursion-append (λ (t : Message). IsSpelled t.items) c.messages (message ∷ []) h (k, tt) | false ↦ h ]

pub queued_good : (ack : Acknowledging) (s : TunnelState) (text : List ℕ) (now : ℕ) → AreSpelled s.channel.messages → s.channel.window ≤ flight_most → IsSpelled text → IsGood s (queued_text ack s text now)
queued_good ack s text now h w k =
    let next = record s { channel = queued s.channel (record { items = text }) now } in
    let good = flushed_good ack next (queued_spelled s.channel (record { items = text }) now h k) w in
    record { spelled = good.spelled; window = good.window; rules = good.rules; peer = good.peer; outs = good.outs }

received_spelled : (c : ChannelState) (ns nr : ℕ) (none : Bool) (now : ℕ) → AreSpelled c.messages → AreSpelled (received c ns nr none now).messages
received_spelled c ns nr none now h = AllByRecursion-drop (λ (t : Message). IsSpelled t.items) (acknowledged c nr) c.messages h

-- the phases that a step tells of
pub stays : (p : TunnelPhase) → (false ≡ (is_replied p && is_established p)) × (false ≡ (not (is_cleared p) && is_cleared p))
stays Idle = (refl, refl)
stays Replied = (refl, refl)
stays Established = (refl, refl)
stays Cleared = (refl, refl)

pub ends : (p : TunnelPhase) → is_cleared p ≡ false → (false ≡ (is_replied p && is_established Cleared)) × (true ≡ (not (is_cleared p) && is_cleared Cleared))
ends Idle e = (refl, refl)
ends Replied e = (refl, refl)
ends Established e = (refl, refl)
ends Cleared e = absurd cc

pub standing : (p : TunnelPhase) → stands p ≡ true → is_cleared p ≡ false
standing Idle e = absurd cc
standing Replied e = refl
standing Established e = refl
standing Cleared e = absurd cc

-- a step of a tunnel that stands
pub sound_if_good : (s : TunnelState) (step : Step) → IsReady s → stands s.phase ≡ true → IsGood s step → (stands step.after.phase ≡ true → next_out step.after.channel ≡ None) → step.said.established ≡ (is_replied s.phase && is_established step.after.phase)
    → step.said.cleared ≡ (not (is_cleared s.phase) && is_cleared step.after.phase) → IsSound s step
sound_if_good s step t e good until f g = record {
  tunnel = record { spelled = good.spelled; window = good.window; until = until; known = λ _. good.rules.0 ∙ t.known e; numbered = λ _. λ z. t.numbered e (sym good.rules.1 ∙ z); addressed = λ _. subst (λ (n : Option ℕ). IsSome n) (sym good.peer) (t.addressed e) };
  outs = subst (λ (nr : ℕ). AllByRecursion (IsSentTo (to_peer step.after) nr) step.said.outs) (sym (ap (λ (b : Bool). cond b step.after.channel.nr 1) e))
      (subst (λ (tunnel : ℕ). AllByRecursion (IsSentTo tunnel step.after.channel.nr) step.said.outs) (sym (ap (λ (n : Option ℕ). unwrap_or n 0) good.peer)) good.outs);
  established = f;
  cleared = g;
}

zlb_sent : (tunnel : ℕ) (c : ChannelState) → IsSentTo tunnel c.nr (zlb tunnel c)
zlb_sent tunnel c = record { message = record { tunnel = tunnel; session = 0; ns = c.ns; nr = c.nr; avps = [] }; text = refl; tunnel_is = refl; nr_is = refl }

no_end : (p : TunnelPhase) → false ≡ (not (is_cleared p) && is_cleared Established)
no_end Idle = refl
no_end Replied = refl
no_end Established = refl
no_end Cleared = refl

pub nothing_sound : (s : TunnelState) → IsTunnel s → IsSound s (nothing s)
nothing_sound s t = record { tunnel = t; outs = tt; established = (stays s.phase).0; cleared = (stays s.phase).1 }

module _ (s : TunnelState) (t : IsReady s) (e : stands s.phase ≡ true) where
  pub flushed_sound : (ack : Acknowledging) → IsSound s (flushed ack s)
  flushed_sound ack = sound_if_good s (flushed ack s) t e (flushed_good ack s t.spelled t.window) (λ _. drained s.channel t.window) (stays s.phase).0 (stays s.phase).1

  pub queued_sound : (ack : Acknowledging) (text : List ℕ) (now : ℕ) → IsSpelled text → IsSound s (queued_text ack s text now)
  queued_sound ack text now k = sound_if_good s (queued_text ack s text now) t e (queued_good ack s text now t.spelled t.window k) (λ _. drained (queued s.channel (record { items = text }) now) t.window) (stays s.phase).0 (stays s.phase).1

  pub clears_sound : (step : Step) → IsGood s step → step.said.established ≡ false → IsSound s (clears step)
  clears_sound step g f =
      let end = ends s.phase (standing s.phase e) in
      sound_if_good s (clears step) t e (record { spelled = g.spelled; window = g.window; rules = g.rules; peer = g.peer; outs = g.outs }) (λ no. absurd cc) (f ∙ end.0) end.1

  pub refuse_sound : (refusal : TunnelRefusal) (now : ℕ) → IsSound s (clears (answered ByAny s (stop_ccn s.number (code_of refusal)) now))
  refuse_sound refusal now =
      let text = control_text (stop_ccn s.number (code_of refusal)) in
      clears_sound (queued_text ByAny s text now) (queued_good ByAny s text now t.spelled t.window (stop_ccn s.number (code_of refusal), refl)) refl

  pub stop_sound : (now : ℕ) → IsSound s (clears (answered Never s (stop_ccn s.number shut_down) now))
  stop_sound now =
      let text = control_text (stop_ccn s.number shut_down) in
      clears_sound (queued_text Never s text now) (queued_good Never s text now t.spelled t.window (stop_ccn s.number shut_down, refl)) refl

  pub handed_sound : IsSound s (handed_over s)
  handed_sound =
      let g = flushed_good Never s t.spelled t.window in
      sound_if_good s (handed_over s) t e (record { spelled = g.spelled; window = g.window; rules = g.rules; peer = g.peer; outs = g.outs }) (λ _. drained s.channel t.window) (stays s.phase).0 (stays s.phase).1

  pub ended_sound : IsSound s (ended s)
  ended_sound =
      clears_sound (record { said = sends (zlb (to_peer s) s.channel ∷ []); after = s })
      (record { spelled = t.spelled; window = t.window; rules = (refl, refl); peer = refl; outs = (zlb_sent (to_peer s) s.channel, tt) }) refl

  pub established_sound : is_replied s.phase ≡ true → IsSound s (established (flushed ByZlb s))
  established_sound r =
      let g = flushed_good ByZlb s t.spelled t.window in
      sound_if_good s (established (flushed ByZlb s)) t e (record { spelled = g.spelled; window = g.window; rules = g.rules; peer = g.peer; outs = g.outs }) (λ _. drained s.channel t.window) (sym (ap (λ (b : Bool). b && true) r)) (no_end s.phase)

  pub accepted_sound : (type : Option ℕ) → is_taken s.phase type ≡ true → IsSound s (accepted s type)
  accepted_sound type taken =
      first (is_type type SCCCN) refl
    where
      second : (b : Bool) → IsSound s (cond b (ended s) (flushed ByZlb s))
      second true = ended_sound
      second false = flushed_sound ByZlb

      first : (b : Bool) → is_type type SCCCN ≡ b → IsSound s (cond b (established (flushed ByZlb s)) (cond (is_type type STOP_CCN) (ended s) (flushed ByZlb s)))
      first true q = established_sound (replied_if s.phase type q taken)
      first false q = second (is_type type STOP_CCN)

  pub judged_sound : (avps : List L2tpAvp) (now : ℕ) (r : Option TunnelRefusal) → refusal_of s avps ≡ r → IsSound s (judged s (message_type avps) now r)
  judged_sound avps now None q = accepted_sound (message_type avps) (passed s avps q).taken
  judged_sound avps now (Some refusal) q = refuse_sound refusal now

  pub delivered_sound : (avps : List L2tpAvp) (now : ℕ) → IsSound s (delivered s avps now)
  delivered_sound avps now =
      elim (is_established s.phase && is_of_call (message_type avps)) as (λ b. IsSound s (cond b (handed_over s) (judged s (message_type avps) now (refusal_of s avps))))
      [ true ↦ handed_sound | false ↦ judged_sound avps now (refusal_of s avps) refl ]

  pub heard_sound : (avps : List L2tpAvp) (now : ℕ) (answer : Heard) → IsSound s (heard s avps now answer)
  heard_sound avps now Deliver = delivered_sound avps now
  heard_sound avps now Repeat = flushed_sound ByZlb
  heard_sound avps now Ahead = flushed_sound Never
  heard_sound avps now Acked = flushed_sound Never

  pub reminded_sound : (now : ℕ) (due : Due) → next_out s.channel ≡ None → IsSound s (reminded s now due)
  reminded_sound now Nothing none = nothing_sound s (record { spelled = t.spelled; window = t.window; known = t.known; numbered = t.numbered; addressed = t.addressed; until = λ _. none })
  reminded_sound now Resend none = sound_if_good s _ t e (record { spelled = t.spelled; window = t.window; rules = (refl, refl); peer = refl; outs = flight_sent (to_peer s) s.channel t.spelled flight_most }) (λ _. none) (stays s.phase).0 (stays s.phase).1
  reminded_sound now Hello none = queued_sound Never (control_text hello) now (hello, refl)
  reminded_sound now GiveUp none = clears_sound (nothing s) (record { spelled = t.spelled; window = t.window; rules = (refl, refl); peer = refl; outs = tt }) refl

-- only the phase before a step counts
pub sound_from : (r s : TunnelState) (step : Step) → r.phase ≡ s.phase → IsSound r step → IsSound s step
sound_from r s step e x = record {
  tunnel = x.tunnel;
  outs = subst (λ (p : TunnelPhase). AllByRecursion (IsSentTo (to_peer step.after) (cond (stands p) step.after.channel.nr 1)) step.said.outs) e x.outs;
  established = subst (λ (p : TunnelPhase). step.said.established ≡ (is_replied p && is_established step.after.phase)) e x.established;
  cleared = subst (λ (p : TunnelPhase). step.said.cleared ≡ (not (is_cleared p) && is_cleared step.after.phase)) e x.cleared;
}

pub hearing_sound : (s : TunnelState) (m : ControlMessage) (now : ℕ) → IsTunnel s → stands s.phase ≡ true → IsSound s (hearing s m now)
hearing_sound s m now t e =
    sound_from (having_heard s m now) s (hearing s m now) refl
    (heard_sound (having_heard s m now) (record { spelled = received_spelled s.channel m.ns m.nr (is_zlb m.avps) now t.spelled; window = t.window; known = t.known; numbered = t.numbered; addressed = t.addressed }) e m.avps now (heard_by s m))

-- Opening -----------------------------------------------------------------------------------------------------------------------------------

turned_away_sent : (tunnel : Option ℕ) (refusal : TunnelRefusal) → AllByRecursion (IsSentTo (unwrap_or tunnel 0) 1) (turned_away tunnel refusal)
turned_away_sent None refusal = tt
turned_away_sent (Some tunnel) refusal =
    (record { message = record (stop_ccn 0 (code_of refusal)) { tunnel = tunnel; nr = 1 }; text = refl; tunnel_is = refl; nr_is = refl }, tt)

and_true : (a b : Bool) → (a && b) ≡ true → (a ≡ true) × (b ≡ true)
and_true true b e = (refl, e)
and_true false b e = absurd cc

and_false : (b : Bool) → false ≡ (b && false)
and_false true = refl
and_false false = refl

-- the channel that an SCCRQ begins expects the message 1
made_nr : (s : TunnelState) (m : ControlMessage) (random : List ℕ) (now : ℕ) → (m.ns == 0) ≡ true → (replied s m random now).after.channel.nr ≡ 1
made_nr s m random now e =
    (after_out-keeps flight_most (queued (made s m random now).channel (record { items = control_text (sccrp s.name s.number s.secret random (value_of s.secret CHALLENGE m.avps)) }) now)).1
    ∙ ap (λ (b : Bool). cond b 1 0) e

module _ (s : TunnelState) (m : ControlMessage) (random : List ℕ) (now : ℕ) (t : IsTunnel s) (e : s.phase ≡ Idle) where
  closed_sound : (step : Step) → IsTunnel step.after → step.said.established ≡ false → AllByRecursion (IsSentTo (to_peer step.after) 1) step.said.outs → IsSound s (clears step)
  closed_sound step after f outs =
      let end = ends s.phase (ap is_cleared e) in
      record {
        tunnel = record { spelled = after.spelled; window = after.window; known = λ no. absurd cc; numbered = λ no. absurd cc; addressed = λ no. absurd cc; until = λ no. absurd cc };
        outs = subst (λ (nr : ℕ). AllByRecursion (IsSentTo (to_peer step.after) nr) step.said.outs) (sym (ap (λ (p : TunnelPhase). cond (stands p) step.after.channel.nr 1) e)) outs;
        established = f ∙ end.0;
        cleared = end.1;
      }

  replied_sound : begins m ≡ true → refusal_of s m.avps ≡ None → IsSound s (replied s m random now)
  replied_sound b q =
      let both = and_true (is_type (message_type m.avps) SCCRQ) (m.ns == 0) b in
      let answer = sccrp s.name s.number s.secret random (value_of s.secret CHALLENGE m.avps) in
      let pass = passed s m.avps q in
      let there = has_tunnel s m.avps both.0 pass.wrong in
      let x = queued_sound (made s m random now) (record { spelled = received_spelled (begun (window_of s.secret m.avps) now) m.ns m.nr false now tt; window = omega arith; known = λ _. pass.known; numbered = λ _. has_number s m.avps both.0 pass.numbered; addressed = λ _. there }) refl ByAny (control_text answer) now (answer, refl) in
      let nr = made_nr s m random now both.1 in
      record {
        tunnel = x.tunnel;
        outs = subst (λ (n : ℕ). AllByRecursion (IsSentTo (to_peer (replied s m random now).after) n) (replied s m random now).said.outs)
            (nr ∙ sym (ap (λ (p : TunnelPhase). cond (stands p) (replied s m random now).after.channel.nr 1) e)) x.outs;
        established = and_false (is_replied s.phase);
        cleared = and_false (not (is_cleared s.phase));
      }

  opened_sound : begins m ≡ true → (r : Option TunnelRefusal) → refusal_of s m.avps ≡ r → IsSound s (opened_by s m random now r)
  opened_sound b None q = replied_sound b q
  opened_sound b (Some refusal) q =
      closed_sound (record { said = sends (turned_away (assigned_tunnel s.secret m.avps) refusal); after = record s { peer_number = assigned_tunnel s.secret m.avps } })
      (record { spelled = t.spelled; window = t.window; known = λ yes. absurd (let no = sym yes ∙ ap stands e in cc); numbered = λ yes. absurd (let no = sym yes ∙ ap stands e in cc); addressed = λ yes. absurd (let no = sym yes ∙ ap stands e in cc); until = λ yes. absurd (let no = sym yes ∙ ap stands e in cc) }) refl (turned_away_sent (assigned_tunnel s.secret m.avps) refusal)

  pub opening_sound : IsSound s (opening s m random now)
  opening_sound =
      by (begins m) refl
    where
      by : (b : Bool) → begins m ≡ b → IsSound s (cond b (opened_by s m random now (refusal_of s m.avps)) (clears (nothing s)))
      by true q = opened_sound q (refusal_of s m.avps) refl
      by false q = closed_sound (nothing s) t refl tt

pub message_sound : (s : TunnelState) (m : ControlMessage) (random : List ℕ) (now : ℕ) → IsTunnel s → IsSound s (message_step s m random now)
unfolding message_step
message_sound s m random now t =
    by_phase s.phase refl
  where
    by_phase : (p : TunnelPhase) → s.phase ≡ p → IsSound s (in_phase p s m random now)
    by_phase Idle e = opening_sound s m random now t e
    by_phase Replied e = hearing_sound s m now t (ap stands e)
    by_phase Established e = hearing_sound s m now t (ap stands e)
    by_phase Cleared e = nothing_sound s t

after_due_spelled : (c : ChannelState) (now : ℕ) (due : Due) → AreSpelled c.messages → AreSpelled (after_due c now due).messages
after_due_spelled c now Nothing h = h
after_due_spelled c now Resend h = h
after_due_spelled c now Hello h = h
after_due_spelled c now GiveUp h = h

after_due-window : (c : ChannelState) (now : ℕ) (due : Due) → (after_due c now due).window ≡ c.window
after_due-window c now Nothing = refl
after_due-window c now Resend = refl
after_due-window c now Hello = refl
after_due-window c now GiveUp = refl

-- the timers let nothing out
after_due-next_out : (c : ChannelState) (now : ℕ) (due : Due) → next_out c ≡ None → next_out (after_due c now due) ≡ None
after_due-next_out c now Nothing e = e
after_due-next_out c now Resend e =
    ap (λ (n : ℕ). cond (nat_lt n c.window) (option_map (numbered c c.ns) (slice_get c.messages n)) None) (length-map c.sends (sent_again now)) ∙ e
after_due-next_out c now Hello e = e
after_due-next_out c now GiveUp e = e

if_stands : (s : TunnelState) (step : Step) → IsTunnel s → (stands s.phase ≡ true → IsSound s step) → IsSound s (cond (stands s.phase) step (nothing s))
if_stands s step t h =
    by (stands s.phase) h
  where
    by : (b : Bool) → (b ≡ true → IsSound s step) → IsSound s (cond b step (nothing s))
    by true k = k refl
    by false k = nothing_sound s t

pub due_sound : (s : TunnelState) (now : ℕ) → IsTunnel s → IsSound s (due_step s now)
unfolding due_step
due_sound s now t =
    let after = record s { channel = after_due s.channel now (due_of s.channel now) } in
    if_stands s (reminded after now (due_of s.channel now)) t
    (λ e. sound_from after s (reminded after now (due_of s.channel now)) refl
    (reminded_sound after (record { spelled = after_due_spelled s.channel now (due_of s.channel now) t.spelled; window = omega (arith, t.window, after_due-window s.channel now (due_of s.channel now)); known = t.known; numbered = t.numbered; addressed = t.addressed }) e now (due_of s.channel now)
    (after_due-next_out s.channel now (due_of s.channel now) (t.until e))))

pub send_sound : (s : TunnelState) (text : List ℕ) (now : ℕ) → IsTunnel s → IsSpelled text → IsSound s (send_step s text now)
unfolding send_step
send_sound s text now t k = if_stands s (queued_text Never s text now) t (λ e. queued_sound s (ready s t) e Never text now k)

pub stop_step_sound : (s : TunnelState) (now : ℕ) → IsTunnel s → IsSound s (stop_step s now)
unfolding stop_step
stop_step_sound s now t = if_stands s (clears (answered Never s (stop_ccn s.number shut_down) now)) t (λ e. stop_sound s (ready s t) e now)

-- what a call gave, and the tunnel after it, are a sound step
pub as_said : (s : TunnelState) (step : Step) (said : Said) (after : TunnelState) → said ≡ step.said → after ≡ step.after → IsSound s step → IsSound s (record { said = said; after = after })
as_said s step said after e f x =
    subst (λ (w : Said). IsSound s (record { said = w; after = after })) (sym e) (subst (λ (a : TunnelState). IsSound s (record { said = step.said; after = a })) (sym f) (record { tunnel = x.tunnel; outs = x.outs; established = x.established; cleared = x.cleared }))
