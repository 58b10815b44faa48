-- Each step of a tunnel in use is sound.
use Rattle.std.proofs.Common.{◌≡◌, ℕ, ◌<◌, ◌≤◌, Bool, true, false, ◌&&◌, not, cond, nat_lt, nat_le, Option, None, Some, IsSome, unwrap_or, List, [], ◌∷◌, ◌++◌, length, map, option_to_list, refl, sym, ap, subst, ◌∙◌, arith, filter}
use Rattle.std.specs.List.{AllByRecursion}
use Rattle.std.proofs.lemmas.Bool.{or_parts, false≢true, leb-false}
use Rattle.std.proofs.lemmas.List.Elements.{All-append, All-cons, All-filter}
use Rattle.std.proofs.lemmas.List.Kept.{AllPairs-filter}
use Rattle.bng_base.specs.declared.address.Peer.{Peer}
use Rattle.bng_base.specs.declared.address.SessionNo.{SessionNo}
use Rattle.bng_l2tp_reliable.specs.declared.answers.Heard.{Heard}
use Rattle.bng_l2tp_reliable.specs.declared.answers.Heard.TheVariants.{Deliver, Repeat, Ahead, Acked}
use Rattle.bng_l2tp_reliable.specs.declared.answers.Due.{Due}
use Rattle.bng_l2tp_reliable.specs.declared.answers.Due.TheVariants.{Nothing, Resend, Hello, GiveUp}
use Rattle.bng_l2tp_reliable.specs.ChannelState.{ChannelState, Message, waiting, with_window}
use Rattle.bng_l2tp_reliable.specs.Calls.{received, acknowledged, next_out, after_next, is_full}
use Rattle.bng_l2tp_reliable.specs.Timers.{after_due, due_of}
use Rattle.bng_l2tp_reliable.specs.declared.outgoing.Outgoing.{Outgoing}
use Rattle.bng_l2tp_wire.specs.Avps.{L2tpAvp}
use Rattle.bng_l2tp_wire.specs.Messages.{ControlMessage, control_text}
use Rattle.bng_l2tp_tunnel.specs.declared.acknowledging.Acknowledging.{Acknowledging}
use Rattle.bng_l2tp_tunnel.specs.declared.acknowledging.Acknowledging.TheVariants.{Never, ByAny, ByZlb}
use Rattle.bng_l2tp_tunnel.specs.declared.refusal.TunnelRefusal.{TunnelRefusal}
use Rattle.bng_l2tp_wire.specs.Values.{value_of, message_type, assigned_tunnel, window_of, assigned_session}
use Rattle.bng_l2tp_wire.specs.Judge.{is_type}
use Rattle.bng_l2tp_tunnel.specs.Outs.{datagram, let_out, after_out, flight_most, zlb, with_zlb, or_zlb}
use Rattle.bng_l2tp_tunnel.specs.Spelling.{stop_ccn, hello, code_of, shut_down}
use Rattle.bng_l2tp_wire.specs.View.{sends}
use Rattle.bng_l2tp_tunnel.specs.Steps.{is_zlb}
use Rattle.bng_l2tp_tunnel.specs.Sound.{IsSpelled, AreSpelled, IsSentTo}
use Rattle.bng_l2tp_tunnel.proofs.Texts.{AllByRecursion-append, AllByRecursion-drop, after_out-keeps, let_out_sent, flight_sent}
use Rattle.bng_l2tp_tunnel.proofs.Flights.{after_out-window}
use Rattle.bng_l2tp_call.specs.declared.refusal.CallRefusal.{CallRefusal as CallRefusal}
use Rattle.bng_l2tp_wire.specs.declared.message.TheConstants.{ICRP, CDN, SCCRP, STOP_CCN}
use Rattle.bng_l2tp_call.specs.Spelling.{cdn, administrative, code_of as call_code_of}
use Rattle.bng_lac.specs.declared.phase.LacPhase.{LacPhase}
use Rattle.bng_lac.specs.declared.phase.LacPhase.TheVariants.{Idle, WaitReply, Established}
use Rattle.bng_lac.specs.declared.call.LacCall.{LacCall}
use Rattle.bng_lac.specs.declared.rules.LacRules.{LacRules}
use Rattle.bng_l2tp_wire.specs.declared.kind.TheConstants.{CHALLENGE}
use Rattle.bng_lac.specs.LacState.{LacState, unused, is_used, is_waiting, is_established, AreRising, IsBefore}
use Rattle.bng_lac.specs.Messages.{is_of_call, is_taken_by}
use Rattle.bng_lac.specs.Refusals.{refusal_of, call_refusal_of}
use Rattle.bng_lac.specs.Spelling.{sccrq, scccn, icrq, iccn}
use Rattle.bng_lac.specs.Calls.{is_call, call_of, with_call, without_call, new_call}
use Rattle.bng_lac.specs.CallSteps.{CallStep, answered_session, passes, opens, ends, call_step, peer_session, judged as call_judged}
use Rattle.bng_lac.specs.Steps.{Step, to_peer, nothing, flushed, queue_text, queue, queued_text, cleared, clears, opened, Asking, asks, asks_each, connecting, established, ended, accepted, judged, learned, calls_after, replied, with_words, heard_by_call, delivered, heard, heard_by, having_heard, lac_step, waiting_most, has_no_room, asked_for, with_new_call, called, parting, parted, ended_by, reminded, due_step, stop_step}
use Rattle.bng_lac.specs.Sound.{IsDown, IsLac, lasting_of, IsSound}
use Rattle.bng_lac.proofs.Placed.{with_rises, with_few, filter_few}
use Rattle.bng_lac.proofs.Passed.{passed, has_tunnel, waiting_if}

-- Phases ---------------------------------------------------------------------------------------------------------------------------------

not_both : (p : LacPhase) → is_waiting p ≡ true → is_established p ≡ true → ⊥
not_both Idle w e = false≢true w
not_both WaitReply w e = false≢true e
not_both Established w e = false≢true w

no_phase : (p : LacPhase) → is_used p ≡ true → is_used p ≡ false → ⊥
no_phase p e f = false≢true (sym f ∙ e)

used_if_waiting : (p : LacPhase) → is_waiting p ≡ true → is_used p ≡ true
used_if_waiting Idle e = absurd (false≢true e)
used_if_waiting WaitReply e = refl
used_if_waiting Established e = refl

used_if_established : (p : LacPhase) → is_established p ≡ true → is_used p ≡ true
used_if_established Idle e = absurd (false≢true e)
used_if_established WaitReply e = refl
used_if_established Established e = refl

-- a step that does not change the phase tells of none
stays : (p : LacPhase) → false ≡ (is_waiting p && is_established p)
stays Idle = refl
stays WaitReply = refl
stays Established = refl

goes_on : (p : LacPhase) → is_used p ≡ true → false ≡ not (is_used p)
goes_on p e = sym (ap not e)

and_false : (b : Bool) → false ≡ (b && false)
and_false true = refl
and_false false = refl

-- Channels -------------------------------------------------------------------------------------------------------------------------------

-- what the channel holds are control messages, and its window is the gateway's at most
pub record IsSpelledIn (c : ChannelState) : Type 0 where
  pub spelled : AreSpelled c.messages
  pub window : c.window ≤ flight_most

pub queue_good : (c : ChannelState) (text : List ℕ) (now : ℕ) → IsSpelled text → IsSpelledIn c → IsSpelledIn (queue_text c text now)
queue_good c text now k h = record {
  spelled = elim (nat_lt (length (waiting c)) 64) as (λ b. AreSpelled (cond b (c.messages ++ record { items = text } ∷ []) c.messages))
      [ true ↦ AllByRecursion-append (λ (t : Message). IsSpelled t.items) c.messages (record { items = text } ∷ []) h.spelled (k, tt) | false ↦ h.spelled ];
  window = h.window;
}

out_good : (c : ChannelState) → IsSpelledIn c → IsSpelledIn (after_out flight_most c)
out_good c h = record {
  spelled = subst (λ (ms : List Message). AreSpelled ms) (sym (after_out-keeps flight_most c).0) h.spelled;
  window = omega (arith, h.window, after_out-window flight_most c);
}

next_good : (c : ChannelState) (out : Option Outgoing) → IsSpelledIn c → IsSpelledIn (after_next c out)
next_good c None h = h
next_good c (Some out) h = record { spelled = h.spelled; window = h.window }

next_nr : (c : ChannelState) (out : Option Outgoing) → (after_next c out).nr ≡ c.nr
next_nr c None = refl
next_nr c (Some out) = refl

received_good : (c : ChannelState) (ns nr : ℕ) (none : Bool) (now : ℕ) → IsSpelledIn c → IsSpelledIn (received c ns nr none now)
received_good c ns nr none now h = record {
  spelled = AllByRecursion-drop (λ (t : Message). IsSpelled t.items) (acknowledged c nr) c.messages h.spelled;
  window = h.window;
}

due_good : (c : ChannelState) (now : ℕ) (due : Due) → IsSpelledIn c → IsSpelledIn (after_due c now due)
due_good c now Nothing h = record { spelled = h.spelled; window = h.window }
due_good c now Resend h = record { spelled = h.spelled; window = h.window }
due_good c now Hello h = record { spelled = h.spelled; window = h.window }
due_good c now GiveUp h = record { spelled = h.spelled; window = h.window }

-- Datagrams ------------------------------------------------------------------------------------------------------------------------------

zlb_sent : (tunnel : ℕ) (c : ChannelState) → IsSentTo tunnel c.nr (zlb tunnel c)
zlb_sent tunnel c = record { message = record { tunnel = tunnel; session = 0; ns = c.ns; nr = c.nr; avps = [] }; text = refl; tunnel_is = refl; nr_is = refl }

with_zlb_sent : (ack : Acknowledging) (tunnel : ℕ) (c : ChannelState) (outs : List (List ℕ)) → AllByRecursion (IsSentTo tunnel c.nr) outs → AllByRecursion (IsSentTo tunnel c.nr) (with_zlb ack tunnel c outs)
with_zlb_sent Never tunnel c outs h = h
with_zlb_sent ByAny tunnel c [] h = (zlb_sent tunnel c, tt)
with_zlb_sent ByAny tunnel c (o ∷ os) h = h
with_zlb_sent ByZlb tunnel c outs h = AllByRecursion-append (IsSentTo tunnel c.nr) outs (zlb tunnel c ∷ []) h (zlb_sent tunnel c, tt)

or_zlb_sent : (tunnel : ℕ) (c : ChannelState) (outs : List (List ℕ)) → AllByRecursion (IsSentTo tunnel c.nr) outs → AllByRecursion (IsSentTo tunnel c.nr) (or_zlb tunnel c outs)
or_zlb_sent tunnel c [] h = (zlb_sent tunnel c, tt)
or_zlb_sent tunnel c (o ∷ os) h = h

flushed_sent : (ack : Acknowledging) (s : LacState) → AreSpelled s.channel.messages → AllByRecursion (IsSentTo (to_peer s) (flushed ack s).after.channel.nr) (flushed ack s).said.outs
flushed_sent ack s h =
    let keeps = after_out-keeps flight_most s.channel in
    with_zlb_sent ack (to_peer s) (after_out flight_most s.channel) (map (datagram (to_peer s)) (let_out flight_most s.channel))
    (subst (λ (nr : ℕ). AllByRecursion (IsSentTo (to_peer s) nr) (map (datagram (to_peer s)) (let_out flight_most s.channel))) (sym keeps.1) (let_out_sent (to_peer s) s.channel h flight_most))

next_sent : (tunnel : ℕ) (c : ChannelState) → AreSpelled c.messages → AllByRecursion (IsSentTo tunnel c.nr) (map (datagram tunnel) (option_to_list (next_out c)))
unfolding let_out after_out
next_sent tunnel c h = let_out_sent tunnel c h 1

-- A call's answer after what the window lets out, or a ZLB
module _ (s : LacState) (text : List ℕ) (now : ℕ) (h : IsSpelledIn s.channel) (k : IsSpelled text) where
  before : ChannelState
  before = after_out flight_most s.channel

  abbrev next : ChannelState
  next = queue_text (after_out flight_most s.channel) text now

  next_is_good : IsSpelledIn next
  next_is_good = queue_good (after_out flight_most s.channel) text now k (out_good s.channel h)

  pub replied_good : IsSpelledIn (replied s now (Some text)).after.channel
  replied_good = next_good next (next_out next) next_is_good

  pub replied_sent : AllByRecursion (IsSentTo (to_peer s) (replied s now (Some text)).after.channel.nr) (replied s now (Some text)).said.outs
  replied_sent =
      let after = after_next next (next_out next) in
      let same : after.nr ≡ next.nr = next_nr next (next_out next) in
      let first = flushed_sent Never s h.spelled in
      let second = next_sent (to_peer s) next next_is_good.spelled in
      let outs = (flushed Never s).said.outs ++ map (datagram (to_peer s)) (option_to_list (next_out next)) in
      or_zlb_sent (to_peer s) after outs
      (subst (λ (nr : ℕ). AllByRecursion (IsSentTo (to_peer s) nr) outs) (sym same)
      (AllByRecursion-append (IsSentTo (to_peer s) next.nr) (flushed Never s).said.outs (map (datagram (to_peer s)) (option_to_list (next_out next))) first second))

-- Tunnels --------------------------------------------------------------------------------------------------------------------------------

-- the tunnel with another channel
with_channel : (s : LacState) (c : ChannelState) → IsLac s → IsSpelledIn c → IsLac (record s { channel = c })
with_channel s c t h = record { spelled = h.spelled; window = h.window; apart = t.apart; idle = t.idle; few = t.few; down = t.down; addressed = t.addressed }

channel_of : (s : LacState) → IsLac s → IsSpelledIn s.channel
channel_of s t = record { spelled = t.spelled; window = t.window }

cleared_lac : (s : LacState) → IsSpelledIn s.channel → IsLac (cleared s)
cleared_lac s h = record {
  spelled = h.spelled;
  window = h.window;
  apart = λ i j d lt within. absurd (omega arith);
  idle = λ e. refl;
  few = λ e. absurd (false≢true e);
  down = λ e. absurd (false≢true e);
  addressed = λ e. absurd (false≢true e);
}

module _ (s : LacState) (t : IsLac s) (e : is_used s.phase ≡ true) where
  pub flushed_sound : (ack : Acknowledging) → IsSound s (flushed ack s)
  flushed_sound ack = record {
    tunnel = with_channel s (after_out flight_most s.channel) t (out_good s.channel (channel_of s t));
    outs = flushed_sent ack s t.spelled;
    established = stays s.phase;
    cleared = goes_on s.phase e;
    call = refl;
    lasting = refl;
  }

  pub queued_sound : (ack : Acknowledging) (text : List ℕ) (now : ℕ) → IsSpelled text → IsSound s (queued_text ack s text now)
  queued_sound ack text now k =
      let h = queue_good s.channel text now k (channel_of s t) in
      let next = record s { channel = queue_text s.channel text now } in
      record {
        tunnel = with_channel s (after_out flight_most (queue_text s.channel text now)) t (out_good (queue_text s.channel text now) h);
        outs = flushed_sent ack next h.spelled;
        established = stays s.phase;
        cleared = goes_on s.phase e;
        call = refl;
        lasting = refl;
      }

-- a step that clears the tunnel
clears_sound : (s : LacState) (step : Step) → IsSpelledIn step.after.channel → AllByRecursion (IsSentTo (to_peer step.after) step.after.channel.nr) step.said.outs
    → step.said.established ≡ false → step.said.call ≡ false → lasting_of step.after ≡ lasting_of s → IsSound s (clears step)
clears_sound s step h outs f g l = record {
  tunnel = cleared_lac step.after h;
  outs = outs;
  established = f ∙ and_false (is_waiting s.phase);
  cleared = refl;
  call = g;
  lasting = l;
}

queued_clears : (ack : Acknowledging) (s : LacState) (text : List ℕ) (now : ℕ) → IsLac s → IsSpelled text → IsSound s (clears (queued_text ack s text now))
queued_clears ack s text now t k =
    let h = queue_good s.channel text now k (channel_of s t) in
    clears_sound s (queued_text ack s text now) (out_good (queue_text s.channel text now) h)
    (flushed_sent ack (record s { channel = queue_text s.channel text now }) h.spelled) refl refl refl

-- An SCCRP -------------------------------------------------------------------------------------------------------------------------------

asks_good : (a : Asking) (cs : List LacCall) (now : ℕ) → IsSpelledIn a.channel → IsSpelledIn (asks_each a cs now).channel
asks_good a [] now h = h
asks_good a (c ∷ cs) now h =
    asks_good (asks a c now) cs now (queue_good a.channel (control_text (icrq c.session.0 a.serial)) now (icrq c.session.0 a.serial, refl) h)

connecting_good : (c : ChannelState) (secret : Option (List ℕ)) (serial : ℕ) (avps : List L2tpAvp) (now : ℕ) → IsSpelledIn c → IsSpelledIn (connecting c secret serial avps now).channel
connecting_good c secret serial avps now h =
    let m = scccn secret (value_of secret CHALLENGE avps) in
    queue_good (with_window c (window_of secret avps)) (control_text m) now (m, refl) (record { spelled = h.spelled; window = omega arith })

established_sound : (s : LacState) (avps : List L2tpAvp) (now : ℕ) → IsLac s → is_waiting s.phase ≡ true → IsSome s.peer_number → IsSound s (established s avps now)
established_sound s avps now t w there =
    let asking = asks_each (connecting s.channel s.secret s.serial avps now) s.calls now in
    let h = asks_good (connecting s.channel s.secret s.serial avps now) s.calls now (connecting_good s.channel s.secret s.serial avps now (channel_of s t)) in
    let after = record s { phase = Established; channel = asking.channel; serial = asking.serial } in
    let good = out_good asking.channel h in
    record {
      tunnel = record {
        spelled = good.spelled;
        window = good.window;
        apart = t.apart;
        idle = λ no. absurd (false≢true (sym no));
        few = λ no. absurd (false≢true no);
        down = λ no. absurd (false≢true no);
        addressed = λ yes. there;
      };
      outs = flushed_sent ByAny after h.spelled;
      established = sym (ap (λ (b : Bool). b && true) w);
      cleared = refl;
      call = refl;
      lasting = refl;
    }

-- Messages of a tunnel -------------------------------------------------------------------------------------------------------------------

ended_sound : (s : LacState) → IsLac s → IsSound s (ended s)
ended_sound s t =
    clears_sound s (record { said = sends (zlb (to_peer s) s.channel ∷ []); after = s }) (channel_of s t) (zlb_sent (to_peer s) s.channel, tt) refl refl refl

accepted_sound : (s : LacState) (type : Option ℕ) (avps : List L2tpAvp) (now : ℕ) → IsLac s → is_used s.phase ≡ true
    → (is_type type SCCRP ≡ true → (is_waiting s.phase ≡ true) × IsSome s.peer_number) → IsSound s (accepted s type avps now)
accepted_sound s type avps now t e reply =
    first (is_type type SCCRP) refl
  where
    second : (b : Bool) → IsSound s (cond b (ended s) (flushed ByZlb s))
    second true = ended_sound s t
    second false = flushed_sound s t e ByZlb

    first : (b : Bool) → is_type type SCCRP ≡ b → IsSound s (cond b (established s avps now) (cond (is_type type STOP_CCN) (ended s) (flushed ByZlb s)))
    first true q = established_sound s avps now t (reply q).0 (reply q).1
    first false q = second (is_type type STOP_CCN)

-- only the phase before a step and what stays count
sound_from : (r s : LacState) (step : Step) → r.phase ≡ s.phase → lasting_of r ≡ lasting_of s → IsSound r step → IsSound s step
sound_from r s step e l x = record {
  tunnel = x.tunnel;
  outs = x.outs;
  established = x.established ∙ ap (λ (p : LacPhase). is_waiting p && is_established step.after.phase) e;
  cleared = x.cleared;
  call = x.call;
  lasting = x.lasting ∙ l;
}

-- what is learned of a message
record Learns (s : LacState) (avps : List L2tpAvp) (r : LacState) : Type 0 where
  tunnel : IsLac r
  phase : r.phase ≡ s.phase
  lasting : lasting_of r ≡ lasting_of s
  peer : is_waiting s.phase ≡ true → r.peer_number ≡ assigned_tunnel s.secret avps

learns : (s : LacState) (avps : List L2tpAvp) → IsLac s → Learns s avps (learned s avps)
learns s avps t =
    by (is_waiting s.phase) refl
  where
    by : (b : Bool) → is_waiting s.phase ≡ b → Learns s avps (cond b (record s { peer_number = assigned_tunnel s.secret avps }) s)
    by true w = record {
      tunnel = record { spelled = t.spelled; window = t.window; apart = t.apart; idle = t.idle; few = t.few; down = t.down; addressed = λ e. absurd (not_both s.phase w e) };
      phase = refl;
      lasting = refl;
      peer = λ w. refl;
    }
    by false w = record { tunnel = t; phase = refl; lasting = refl; peer = λ v. absurd (false≢true (sym w ∙ v)) }

judged_sound : (s : LacState) (avps : List L2tpAvp) (now : ℕ) → IsLac s → is_used s.phase ≡ true → IsSound s (judged (learned s avps) avps now (refusal_of s avps))
judged_sound s avps now t e =
    sound_from r s (judged r avps now (refusal_of s avps)) l.phase l.lasting (by (refusal_of s avps) refl)
  where
    r : LacState
    r = learned s avps

    l : Learns s avps r
    l = learns s avps t

    by : (refusal : Option TunnelRefusal) → refusal_of s avps ≡ refusal → IsSound r (judged r avps now refusal)
    by None q =
        let pass = passed s avps q in
        accepted_sound r (message_type avps) avps now l.tunnel (ap is_used l.phase ∙ e) (λ type.
        let w = waiting_if s.phase (message_type avps) type pass.taken in
        (ap is_waiting l.phase ∙ w, subst (λ (n : Option ℕ). IsSome n) (sym (l.peer w)) (has_tunnel s avps type pass.wrong)))
    by (Some refusal) q =
        queued_clears ByAny r (control_text (stop_ccn r.number (code_of refusal))) now l.tunnel (stop_ccn r.number (code_of refusal), refl)

-- Messages of a call ---------------------------------------------------------------------------------------------------------------------

-- what a call answers is a control message
pub answer_spelled : (secret : Option (List ℕ)) (c : LacCall) (avps : List L2tpAvp) (text : List ℕ) → (call_step secret c avps).answer ≡ Some text → IsSpelled text
unfolding call_step
answer_spelled secret c avps text q =
    by_taken (is_taken_by c (message_type avps)) q
  where
    is_text : (m : ControlMessage) → Some (control_text m) ≡ Some text → IsSpelled text
    is_text m q = (m, cc)

    by_type : (icrp over : Bool) → (cond icrp (opens secret c avps) (cond over ends (passes c))).answer ≡ Some text → IsSpelled text
    by_type true over q = is_text (iccn (unwrap_or (assigned_session secret avps) 0)) q
    by_type false true q = absurd cc
    by_type false false q = absurd cc

    by_refusal : (cause : Option CallRefusal) → (call_judged secret c avps cause).answer ≡ Some text → IsSpelled text
    by_refusal None q = by_type (is_type (message_type avps) ICRP) (is_type (message_type avps) CDN) q
    by_refusal (Some cause) q = is_text (cdn (answered_session c.peer (assigned_session secret avps)) c.session.0 (call_code_of cause)) q

    by_taken : (taken : Bool) → (cond taken (call_judged secret c avps (call_refusal_of secret avps)) (passes c)).answer ≡ Some text → IsSpelled text
    by_taken true q = by_refusal (call_refusal_of secret avps) q
    by_taken false q = absurd cc

after_rises : (c : LacCall) (after : Option LacCall) (calls : List LacCall) → AreRising calls → AreRising (calls_after c after calls)
after_rises c None calls up = AllPairs-filter IsBefore (λ d. not (is_call c.session.0 d)) calls up
after_rises c (Some after) calls up = with_rises after calls up

-- other calls of an established tunnel
with_calls : (s : LacState) (calls : List LacCall) → IsLac s → is_established s.phase ≡ true → AreRising calls → IsLac (record s { calls = calls })
with_calls s calls t e up = record {
  spelled = t.spelled;
  window = t.window;
  apart = up;
  idle = λ no. absurd (no_phase s.phase (used_if_established s.phase e) no);
  few = λ w. absurd (not_both s.phase w e);
  down = λ w. absurd (not_both s.phase w e);
  addressed = t.addressed;
}

words_sound : (s : LacState) (call : CallStep) (step : Step) → IsSound s step → IsSound s (with_words call step)
words_sound s call step x = record { tunnel = x.tunnel; outs = x.outs; established = x.established; cleared = x.cleared; call = x.call; lasting = x.lasting }

replied_sound : (s : LacState) (now : ℕ) (answer : Option (List ℕ)) → IsLac s → is_used s.phase ≡ true → ((text : List ℕ) → answer ≡ Some text → IsSpelled text) → IsSound s (replied s now answer)
replied_sound s now None t e k = flushed_sound s t e ByZlb
replied_sound s now (Some text) t e k =
    let h = channel_of s t in
    let spelled = k text refl in
    record {
      tunnel = with_channel s (replied s now (Some text)).after.channel t (replied_good s text now h spelled);
      outs = replied_sent s text now h spelled;
      established = stays s.phase;
      cleared = goes_on s.phase e;
      call = refl;
      lasting = refl;
    }

by_call_sound : (s : LacState) (avps : List L2tpAvp) (now : ℕ) (found : Option LacCall) → IsLac s → is_established s.phase ≡ true → IsSound s (heard_by_call s avps now found)
by_call_sound s avps now None t e = flushed_sound s t (used_if_established s.phase e) ByZlb
by_call_sound s avps now (Some c) t e =
    let call = call_step s.secret c avps in
    let next = record s { calls = calls_after c call.after s.calls } in
    words_sound s call (replied next now call.answer)
    (sound_from next s (replied next now call.answer) refl refl
    (replied_sound next now call.answer (with_calls s (calls_after c call.after s.calls) t e (after_rises c call.after s.calls t.apart)) (used_if_established s.phase e) (λ text q. answer_spelled s.secret c avps text q)))

-- Messages -------------------------------------------------------------------------------------------------------------------------------

delivered_sound : (s : LacState) (m : ControlMessage) (now : ℕ) → IsLac s → is_used s.phase ≡ true → IsSound s (delivered s m now)
delivered_sound s m now t e =
    by (is_established s.phase) (is_of_call (message_type m.avps)) refl
  where
    by : (a b : Bool) → is_established s.phase ≡ a → IsSound s (cond (a && b) (heard_by_call s m.avps now (call_of m.session s.calls)) (judged (learned s m.avps) m.avps now (refusal_of s m.avps)))
    by true true q = by_call_sound s m.avps now (call_of m.session s.calls) t q
    by true false q = judged_sound s m.avps now t e
    by false b q = judged_sound s m.avps now t e

heard_sound : (s : LacState) (m : ControlMessage) (now : ℕ) (answer : Heard) → IsLac s → is_used s.phase ≡ true → IsSound s (heard s m now answer)
heard_sound s m now Deliver t e = delivered_sound s m now t e
heard_sound s m now Repeat t e = flushed_sound s t e ByZlb
heard_sound s m now Ahead t e = flushed_sound s t e Never
heard_sound s m now Acked t e = flushed_sound s t e Never

pub lac_sound : (s : LacState) (m : ControlMessage) (random : List ℕ) (now : ℕ) → IsLac s → is_used s.phase ≡ true → IsSound s (lac_step s m random now)
unfolding lac_step
lac_sound s m random now t e =
    let heard_it = having_heard s m now in
    sound_from heard_it s (heard heard_it m now (heard_by s m)) refl refl
    (heard_sound heard_it m now (heard_by s m) (with_channel s (received s.channel m.ns m.nr (is_zlb m.avps) now) t (received_good s.channel m.ns m.nr (is_zlb m.avps) now (channel_of s t))) e)

-- Timers, and the end --------------------------------------------------------------------------------------------------------------------

resent_sound : (s : LacState) (now : ℕ) → IsLac s → is_used s.phase ≡ true → IsSound s (reminded s now Resend)
resent_sound s now t e =
    let good = out_good s.channel (channel_of s t) in
    record {
      tunnel = with_channel s (after_out flight_most s.channel) t good;
      outs = flight_sent (to_peer s) (after_out flight_most s.channel) good.spelled flight_most;
      established = stays s.phase;
      cleared = goes_on s.phase e;
      call = refl;
      lasting = refl;
    }

reminded_sound : (s : LacState) (now : ℕ) (due : Due) → IsLac s → is_used s.phase ≡ true → IsSound s (reminded s now due)
reminded_sound s now Nothing t e = flushed_sound s t e Never
reminded_sound s now Resend t e = resent_sound s now t e
reminded_sound s now Hello t e = queued_sound s t e Never (control_text hello) now (hello, refl)
reminded_sound s now GiveUp t e = clears_sound s (nothing s) (channel_of s t) tt refl refl refl

pub due_sound : (s : LacState) (now : ℕ) → IsLac s → is_used s.phase ≡ true → IsSound s (due_step s now)
unfolding due_step
due_sound s now t e =
    let after = record s { channel = after_due s.channel now (due_of s.channel now) } in
    sound_from after s (reminded after now (due_of s.channel now)) refl refl
    (reminded_sound after now (due_of s.channel now) (with_channel s (after_due s.channel now (due_of s.channel now)) t (due_good s.channel now (due_of s.channel now) (channel_of s t))) e)

pub stop_sound : (s : LacState) (now : ℕ) → IsLac s → IsSound s (stop_step s now)
unfolding stop_step
stop_sound s now t = queued_clears Never s (control_text (stop_ccn s.number shut_down)) now t (stop_ccn s.number shut_down, refl)

-- The other calls ------------------------------------------------------------------------------------------------------------------------

pub unused_lac : (rules : LacRules) → IsLac (unused rules)
unused_lac rules = record {
  spelled = tt;
  window = omega arith;
  apart = λ i j d lt within. absurd (omega arith);
  idle = λ e. refl;
  few = λ e. absurd (false≢true e);
  down = λ e. absurd (false≢true e);
  addressed = λ e. absurd (false≢true e);
}

pub opened_lac : (s : LacState) (lns : Peer) (number : ℕ) (random : List ℕ) (now : ℕ) → IsLac (opened s lns number random now)
opened_lac s lns number random now = record {
  spelled = ((sccrq s.name number s.secret random, refl), tt);
  window = omega arith;
  apart = λ i j d lt within. absurd (omega arith);
  idle = λ e. absurd (false≢true (sym e));
  few = λ e. omega arith;
  down = λ e k d l. absurd (omega arith);
  addressed = λ e. absurd (false≢true e);
}

-- a call of a session more
module _ (s : LacState) (session : SessionNo) (now : ℕ) (t : IsLac s) (e : is_used s.phase ≡ true) where
  added : (room : is_waiting s.phase ≡ true → length s.calls < 63) → (r : LacState) → r.phase ≡ s.phase → r.calls ≡ s.calls → r.peer_number ≡ s.peer_number → IsSpelledIn r.channel
      → IsLac (record r { calls = with_call (new_call session) s.calls })
  added room r p c n h = record {
    spelled = h.spelled;
    window = h.window;
    apart = with_rises (new_call session) s.calls t.apart;
    idle = λ no. absurd (no_phase s.phase e (sym (ap is_used p) ∙ no));
    few = λ w. omega (arith, with_few (new_call session) s.calls, room (sym (ap is_waiting p) ∙ w));
    down = λ w.
        let below = filter (λ (d : LacCall). nat_lt d.session.0 session.0) s.calls in
        let above = filter (λ (d : LacCall). nat_lt session.0 d.session.0) s.calls in
        let all = t.down (sym (ap is_waiting p) ∙ w) in
        All-append IsDown below (new_call session ∷ above) (All-filter (λ (d : LacCall). nat_lt d.session.0 session.0) IsDown s.calls all)
        (All-cons IsDown (new_call session) above refl (All-filter (λ (d : LacCall). nat_lt session.0 d.session.0) IsDown s.calls all));
    addressed = λ yes. subst (λ (o : Option ℕ). IsSome o) (sym n) (t.addressed (sym (ap is_established p) ∙ yes));
  }

  added_for : (room : is_waiting s.phase ≡ true → length s.calls < 63) → IsLac (with_new_call s session now)
  added_for room =
      by (is_established s.phase)
    where
      by : (b : Bool) → IsLac (let asking = cond b (asked_for s session.0 now) s in record asking { calls = with_call (new_call session) s.calls })
      by true = added room (asked_for s session.0 now) refl refl refl (queue_good s.channel (control_text (icrq session.0 s.serial)) now (icrq session.0 s.serial, refl) (channel_of s t))
      by false = added room s refl refl refl (channel_of s t)

  has_room : has_no_room s ≡ false → is_waiting s.phase ≡ true → length s.calls < 63
  has_room free w =
      let few = (or_parts (is_waiting s.phase && nat_le waiting_most (length s.calls)) (is_full s.channel) free).0 in
      leb-false 63 (length s.calls) (sym (ap (λ (b : Bool). b && nat_le waiting_most (length s.calls)) w) ∙ few)

  pub called_lac : IsLac (called s session now)
  called_lac =
      by (has_no_room s) refl
    where
      by : (b : Bool) → has_no_room s ≡ b → IsLac (cond b s (with_new_call s session now))
      by true q = t
      by false q = added_for (has_room q)

parted_lac : (s : LacState) (now : ℕ) (found : Option LacCall) → IsLac s → IsLac (parted s now found)
parted_lac s now None t = t
parted_lac s now (Some c) t =
    let h = parting_good in
    record {
      spelled = h.spelled;
      window = h.window;
      apart = AllPairs-filter IsBefore (λ d. not (is_call c.session.0 d)) s.calls t.apart;
      idle = λ no. ap (without_call c.session.0) (t.idle no);
      few = λ w. omega (arith, t.few w, filter_few (λ d. not (is_call c.session.0 d)) s.calls);
      down = λ w. All-filter (λ d. not (is_call c.session.0 d)) IsDown s.calls (t.down w);
      addressed = t.addressed;
    }
  where
    parting_good : IsSpelledIn (parting s c now)
    parting_good =
        let m = cdn (peer_session c) c.session.0 administrative in
        elim (is_established s.phase) as (λ b. IsSpelledIn (cond b (queue s.channel m now) s.channel))
        [ true ↦ queue_good s.channel (control_text m) now (m, refl) (channel_of s t) | false ↦ channel_of s t ]

pub ended_lac : (s : LacState) (session now : ℕ) → IsLac s → IsLac (ended_by s session now)
ended_lac s session now t = parted_lac s now (call_of session s.calls) t
