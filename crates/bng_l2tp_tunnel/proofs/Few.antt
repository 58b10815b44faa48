-- How many datagrams go out in a step.
use Rattle.std.proofs.Common.{◌≡◌, ℕ, zero, suc, ◌+◌, ◌≤◌, Bool, true, false, ◌&&◌, cond, nat_lt, Option, None, Some, List, [], ◌∷◌, ◌++◌, length, map, option_map, option_to_list, slice_get, refl, sym, ap, subst, ◌∙◌, arith, length-append, length-drop}
use Rattle.std.proofs.lemmas.List.{length-map, append-nil}
use Rattle.std.proofs.lemmas.Option.{slice_get_within}
use Rattle.bng_l2tp_reliable.specs.declared.outgoing.Outgoing.{Outgoing}
use Rattle.bng_l2tp_reliable.specs.declared.answers.Heard.{Heard}
use Rattle.bng_l2tp_reliable.specs.declared.answers.Heard.TheVariants.{Deliver, Repeat, Ahead, Acked}
use Rattle.bng_l2tp_reliable.specs.declared.answers.Due.{Due}
use Rattle.bng_l2tp_reliable.specs.declared.answers.Due.TheVariants.{Nothing, Resend, Hello, GiveUp}
use Rattle.bng_l2tp_reliable.specs.ChannelState.{ChannelState, Message, waiting}
use Rattle.bng_l2tp_reliable.specs.Flight.{sent_first}
use Rattle.bng_l2tp_reliable.specs.Calls.{queued, numbered, next_out, after_next, flight_at}
use Rattle.bng_l2tp_reliable.specs.Timers.{after_due, due_of}
use Rattle.bng_l2tp_wire.specs.Avps.{L2tpAvp}
use Rattle.bng_l2tp_wire.specs.Messages.{ControlMessage, control_text}
use Rattle.bng_l2tp_wire.specs.declared.kind.TheConstants.{CHALLENGE}
use Rattle.bng_l2tp_wire.specs.declared.message.TheConstants.{SCCCN, STOP_CCN}
use Rattle.bng_l2tp_tunnel.specs.declared.acknowledging.Acknowledging.{Acknowledging}
use Rattle.bng_l2tp_tunnel.specs.declared.acknowledging.Acknowledging.TheVariants.{Never, ByAny, ByZlb}
use Rattle.bng_l2tp_tunnel.specs.declared.phase.TunnelPhase.{TunnelPhase}
use Rattle.bng_l2tp_tunnel.specs.declared.phase.TunnelPhase.TheVariants.{Idle, Replied, Established, Cleared}
use Rattle.bng_l2tp_tunnel.specs.declared.refusal.TunnelRefusal.{TunnelRefusal}
use Rattle.bng_l2tp_tunnel.specs.TunnelState.{TunnelState}
use Rattle.bng_l2tp_wire.specs.Values.{value_of, message_type, assigned_tunnel}
use Rattle.bng_l2tp_wire.specs.Judge.{is_type}
use Rattle.bng_l2tp_tunnel.specs.Messages.{is_of_call}
use Rattle.bng_l2tp_tunnel.specs.Refusals.{refusal_of}
use Rattle.bng_l2tp_tunnel.specs.Spelling.{sccrp, stop_ccn, hello, code_of, shut_down}
use Rattle.bng_l2tp_tunnel.specs.Outs.{datagram, let_out, after_out, flight_before, flight_most, zlb, or_zlb, with_zlb}
use Rattle.bng_l2tp_tunnel.specs.Sound.{IsTunnel}
use Rattle.bng_l2tp_tunnel.specs.Steps.{Step, nothing, stands, is_established, to_peer, flushed, queued_text, answered, clears, turned_away, made, opened_by, begins, opening, handed_over, ended, established, accepted, judged, delivered, heard, heard_by, having_heard, in_phase, message_step, reminded, due_step, send_step, stop_step}
use Rattle.bng_l2tp_tunnel.proofs.Texts.{after_out-keeps}
use Rattle.bng_l2tp_tunnel.proofs.Waiting.{next_some}

at_most_one : (out : Option Outgoing) → length (option_to_list out) ≤ 1
at_most_one None = omega arith
at_most_one (Some out) = omega arith

let_out_few : (n : ℕ) (c : ChannelState) → length (let_out n c) ≤ n
unfolding let_out
let_out_few zero c = omega arith
let_out_few (suc n) c =
    omega (arith, let_out_few n c, at_most_one (next_out (after_out n c)), length-append (let_out n c) (option_to_list (next_out (after_out n c))))

flight_few : (n : ℕ) (c : ChannelState) → length (flight_before n c) ≤ n
unfolding flight_before
flight_few zero c = omega arith
flight_few (suc n) c =
    omega (arith, flight_few n c, at_most_one (flight_at c n), length-append (flight_before n c) (option_to_list (flight_at c n)))

-- What the window lets out, and a ZLB ------------------------------------------------------------------------------------------------------

pub any_few : (most tunnel : ℕ) (c : ChannelState) (outs : List (List ℕ)) → 1 ≤ most → length outs ≤ most → length (or_zlb tunnel c outs) ≤ most
any_few most tunnel c [] one few = omega (arith, one)
any_few most tunnel c (o ∷ os) one few = few

with_few : (ack : Acknowledging) (tunnel : ℕ) (c : ChannelState) (outs : List (List ℕ)) → length outs ≤ 8 → length (with_zlb ack tunnel c outs) ≤ 9
with_few Never tunnel c outs few = omega (arith, few)
with_few ByAny tunnel c outs few = omega (arith, any_few 8 tunnel c outs (omega arith) few)
with_few ByZlb tunnel c outs few = omega (arith, few, length-append outs (zlb tunnel c ∷ []))

out_few : (tunnel : ℕ) (c : ChannelState) → length (map (datagram tunnel) (let_out flight_most c)) ≤ 8
out_few tunnel c = omega (arith, length-map (let_out flight_most c) (datagram tunnel), let_out_few flight_most c)

module _ (s : TunnelState) where
  flushed_few : (ack : Acknowledging) → length (flushed ack s).said.outs ≤ 9
  flushed_few ack = with_few ack (to_peer s) (after_out flight_most s.channel) (map (datagram (to_peer s)) (let_out flight_most s.channel)) (out_few (to_peer s) s.channel)

  never_few : length (flushed Never s).said.outs ≤ 8
  never_few = out_few (to_peer s) s.channel

queued_few : (ack : Acknowledging) (s : TunnelState) (text : List ℕ) (now : ℕ) → length (queued_text ack s text now).said.outs ≤ 9
queued_few ack s text now = flushed_few (record s { channel = queued s.channel (record { items = text }) now }) ack

queued_never_few : (s : TunnelState) (text : List ℕ) (now : ℕ) → length (queued_text Never s text now).said.outs ≤ 8
queued_never_few s text now = never_few (record s { channel = queued s.channel (record { items = text }) now })

-- Messages ---------------------------------------------------------------------------------------------------------------------------------

-- a call's message was handed over: the tunnel is established, and there is room for the answer
pub record IsHandedOver (step : Step) : Type 0 where
  pub few : length step.said.outs ≤ 8
  pub established : is_established step.after.phase ≡ true

module _ (s : TunnelState) where
  accepted_few : (type : Option ℕ) → length (accepted s type).said.outs ≤ 9
  accepted_few type =
      by (is_type type SCCCN) (is_type type STOP_CCN)
    where
      by : (a b : Bool) → length (cond a (established (flushed ByZlb s)) (cond b (ended s) (flushed ByZlb s))).said.outs ≤ 9
      by true b = flushed_few s ByZlb
      by false true = omega arith
      by false false = flushed_few s ByZlb

  judged_few : (type : Option ℕ) (now : ℕ) (r : Option TunnelRefusal) → length (judged s type now r).said.outs ≤ 9
  judged_few type now None = accepted_few type
  judged_few type now (Some refusal) = queued_few ByAny s (control_text (stop_ccn s.number (code_of refusal))) now

  delivered_few : (avps : List L2tpAvp) (now : ℕ) → length (delivered s avps now).said.outs ≤ 9
  delivered_few avps now =
      elim (is_established s.phase && is_of_call (message_type avps)) as (λ b. length (cond b (handed_over s) (judged s (message_type avps) now (refusal_of s avps))).said.outs ≤ 9)
      [ true ↦ flushed_few s Never | false ↦ judged_few (message_type avps) now (refusal_of s avps) ]

  heard_few : (avps : List L2tpAvp) (now : ℕ) (answer : Heard) → length (heard s avps now answer).said.outs ≤ 9
  heard_few avps now Deliver = delivered_few avps now
  heard_few avps now Repeat = flushed_few s ByZlb
  heard_few avps now Ahead = flushed_few s Never
  heard_few avps now Acked = flushed_few s Never

  accepted_quiet : (type : Option ℕ) → (accepted s type).said.call ≡ false
  accepted_quiet type =
      by (is_type type SCCCN) (is_type type STOP_CCN)
    where
      by : (a b : Bool) → (cond a (established (flushed ByZlb s)) (cond b (ended s) (flushed ByZlb s))).said.call ≡ false
      by true b = refl
      by false true = refl
      by false false = refl

  judged_quiet : (type : Option ℕ) (now : ℕ) (r : Option TunnelRefusal) → (judged s type now r).said.call ≡ false
  judged_quiet type now None = accepted_quiet type
  judged_quiet type now (Some refusal) = refl

  delivered_hands : (avps : List L2tpAvp) (now : ℕ) → (delivered s avps now).said.call ≡ true → IsHandedOver (delivered s avps now)
  delivered_hands avps now =
      by (is_established s.phase) (is_of_call (message_type avps)) refl
    where
      by : (a b : Bool) → is_established s.phase ≡ a → (cond (a && b) (handed_over s) (judged s (message_type avps) now (refusal_of s avps))).said.call ≡ true
          → IsHandedOver (cond (a && b) (handed_over s) (judged s (message_type avps) now (refusal_of s avps)))
      by true true q e = record { few = never_few s; established = q }
      by true false q e = absurd (let no = judged_quiet (message_type avps) now (refusal_of s avps) in cc)
      by false b q e = absurd (let no = judged_quiet (message_type avps) now (refusal_of s avps) in cc)

  heard_hands : (avps : List L2tpAvp) (now : ℕ) (answer : Heard) → (heard s avps now answer).said.call ≡ true → IsHandedOver (heard s avps now answer)
  heard_hands avps now Deliver e = delivered_hands avps now e
  heard_hands avps now Repeat e = absurd cc
  heard_hands avps now Ahead e = absurd cc
  heard_hands avps now Acked e = absurd cc

module _ (s : TunnelState) (m : ControlMessage) (random : List ℕ) (now : ℕ) where
  turned_few : (tunnel : Option ℕ) (refusal : TunnelRefusal) → length (turned_away tunnel refusal) ≤ 9
  turned_few None refusal = omega arith
  turned_few (Some tunnel) refusal = omega arith

  opening_few : length (opening s m random now).said.outs ≤ 9
  opening_few =
      by (begins m) (refusal_of s m.avps)
    where
      by : (b : Bool) (r : Option TunnelRefusal) → length (cond b (opened_by s m random now r) (clears (nothing s))).said.outs ≤ 9
      by true None = queued_few ByAny (made s m random now) (control_text (sccrp s.name s.number s.secret random (value_of s.secret CHALLENGE m.avps))) now
      by true (Some refusal) = turned_few (assigned_tunnel s.secret m.avps) refusal
      by false r = omega arith

  opening_quiet : (opening s m random now).said.call ≡ false
  opening_quiet =
      by (begins m) (refusal_of s m.avps)
    where
      by : (b : Bool) (r : Option TunnelRefusal) → (cond b (opened_by s m random now r) (clears (nothing s))).said.call ≡ false
      by true None = refl
      by true (Some refusal) = refl
      by false r = refl

  pub message_few : length (message_step s m random now).said.outs ≤ 9
  unfolding message_step
  message_few =
      by_phase s.phase
    where
      by_phase : (p : TunnelPhase) → length (in_phase p s m random now).said.outs ≤ 9
      by_phase Idle = opening_few
      by_phase Replied = heard_few (having_heard s m now) m.avps now (heard_by s m)
      by_phase Established = heard_few (having_heard s m now) m.avps now (heard_by s m)
      by_phase Cleared = omega arith

  pub message_hands : (message_step s m random now).said.call ≡ true → IsHandedOver (message_step s m random now)
  unfolding message_step
  message_hands =
      by_phase s.phase
    where
      by_phase : (p : TunnelPhase) → (in_phase p s m random now).said.call ≡ true → IsHandedOver (in_phase p s m random now)
      by_phase Idle e = absurd (let no = opening_quiet in cc)
      by_phase Replied e = heard_hands (having_heard s m now) m.avps now (heard_by s m) e
      by_phase Established e = heard_hands (having_heard s m now) m.avps now (heard_by s m) e
      by_phase Cleared e = absurd cc

-- Timers -----------------------------------------------------------------------------------------------------------------------------------

reminded_few : (s : TunnelState) (now : ℕ) (due : Due) → length (reminded s now due).said.outs ≤ 8
reminded_few s now Nothing = omega arith
reminded_few s now Resend = omega (arith, length-map (flight_before flight_most s.channel) (datagram (to_peer s)), flight_few flight_most s.channel)
reminded_few s now Hello = queued_never_few s (control_text hello) now
reminded_few s now GiveUp = omega arith

if_few : (most : ℕ) (b : Bool) (s : TunnelState) (step : Step) → length step.said.outs ≤ most → length (cond b step (nothing s)).said.outs ≤ most
if_few most true s step few = few
if_few most false s step few = omega arith

pub due_few : (s : TunnelState) (now : ℕ) → length (due_step s now).said.outs ≤ 8
unfolding due_step
due_few s now =
    let after = record s { channel = after_due s.channel now (due_of s.channel now) } in
    if_few 8 (stands s.phase) s (reminded after now (due_of s.channel now)) (reminded_few after now (due_of s.channel now))

-- One message more -------------------------------------------------------------------------------------------------------------------------

-- a channel that lets nothing out stays as it is
none_goes : (n : ℕ) (c : ChannelState) → next_out c ≡ None → (let_out n c ≡ []) × (after_out n c ≡ c)
unfolding let_out after_out
none_goes zero c e = (refl, refl)
none_goes (suc n) c e =
    let before = none_goes n c e in
    let none : next_out (after_out n c) ≡ None = ap next_out before.1 ∙ e in (
      ap (λ (o : Option Outgoing). let_out n c ++ option_to_list o) none ∙ append-nil (let_out n c) ∙ before.0,
      ap (λ (o : Option Outgoing). after_next (after_out n c) o) none ∙ before.1,
    )

-- what was let out waited before
record HasLetOut (c d : ChannelState) (outs : List Outgoing) : Type 0 where
  few : length outs ≤ length (waiting c)
  sends : length d.sends ≡ length c.sends + length outs

one_goes : (c d : ChannelState) (outs : List Outgoing) (out : Option Outgoing) → d.messages ≡ c.messages → next_out d ≡ out → HasLetOut c d outs → HasLetOut c (after_next d out) (outs ++ option_to_list out)
one_goes c d outs None e q h = subst (λ (os : List Outgoing). HasLetOut c d os) (sym (append-nil outs)) h
one_goes c d outs (Some o) e q h =
    let next = next_some d o q in
    let at : slice_get c.messages (length d.sends) ≡ Some next.message = ap (λ (ms : List Message). slice_get ms (length d.sends)) (sym e) ∙ next.found in
    record {
      few = omega (arith, h.sends, length-append outs (o ∷ []), slice_get_within c.messages (length d.sends) next.message at, length-drop (length c.sends) c.messages);
      sends = omega (arith, h.sends, length-append outs (o ∷ []), length-append d.sends (sent_first d.moment ∷ []));
    }

goes : (n : ℕ) (c : ChannelState) → HasLetOut c (after_out n c) (let_out n c)
unfolding after_out let_out
goes zero c = record { few = omega arith; sends = omega arith }
goes (suc n) c = one_goes c (after_out n c) (let_out n c) (next_out (after_out n c)) (after_out-keeps n c).0 refl (goes n c)

-- nothing is found past the end alone
nothing_past : (ms : List Message) (i : ℕ) → slice_get ms i ≡ None → length ms ≤ i
nothing_past [] i e = omega arith
nothing_past (m ∷ ms) zero e = absurd cc
nothing_past (m ∷ ms) (suc i) e = omega (arith, nothing_past ms i e)

none_there : (c : ChannelState) (found : Option Message) → option_map (numbered c c.ns) found ≡ None → found ≡ None
none_there c None e = refl
none_there c (Some m) e = absurd cc

more_messages : (b : Bool) (ms : List Message) (m : Message) → length (cond b (ms ++ m ∷ []) ms) ≤ length ms + 1
more_messages true ms m = omega (arith, length-append ms (m ∷ []))
more_messages false ms m = omega arith

-- of a channel that lets nothing out, one message more lets out that one at most
one_more_goes : (c : ChannelState) (m : Message) (now : ℕ) → next_out c ≡ None → length (let_out flight_most (queued c m now)) ≤ 1
one_more_goes c m now e =
    by (nat_lt (length c.sends) c.window) refl e
  where
    by : (b : Bool) → nat_lt (length c.sends) c.window ≡ b → cond b (option_map (numbered c c.ns) (slice_get c.messages (length c.sends))) None ≡ None → length (let_out flight_most (queued c m now)) ≤ 1
    by true q e =
        let past : length c.messages ≤ length c.sends = nothing_past c.messages (length c.sends) (none_there c (slice_get c.messages (length c.sends)) e) in
        omega (arith, (goes flight_most (queued c m now)).few, length-drop (length c.sends) (queued c m now).messages, more_messages (nat_lt (length (waiting c)) 64) c.messages m, past)
    by false q e =
        let none : next_out (queued c m now) ≡ None =
        ap (λ (b : Bool). cond b (option_map (numbered (queued c m now) c.ns) (slice_get (queued c m now).messages (length c.sends))) None) q in
        omega (arith, ap length (none_goes flight_most (queued c m now) none).0)

queued_one : (s : TunnelState) (text : List ℕ) (now : ℕ) → next_out s.channel ≡ None → length (queued_text Never s text now).said.outs ≤ 1
queued_one s text now e =
    let c = queued s.channel (record { items = text }) now in
    omega (arith, length-map (let_out flight_most c) (datagram (to_peer s)), one_more_goes s.channel (record { items = text }) now e)

if_one : (s : TunnelState) (step : Step) → (stands s.phase ≡ true → length step.said.outs ≤ 1) → length (cond (stands s.phase) step (nothing s)).said.outs ≤ 1
if_one s step h =
    by (stands s.phase) h
  where
    by : (b : Bool) → (b ≡ true → length step.said.outs ≤ 1) → length (cond b step (nothing s)).said.outs ≤ 1
    by true k = k refl
    by false k = omega arith

pub send_one : (s : TunnelState) (text : List ℕ) (now : ℕ) → IsTunnel s → length (send_step s text now).said.outs ≤ 1
unfolding send_step
send_one s text now t = if_one s (queued_text Never s text now) (λ e. queued_one s text now (t.until e))

pub stop_one : (s : TunnelState) (now : ℕ) → IsTunnel s → length (stop_step s now).said.outs ≤ 1
unfolding stop_step
stop_one s now t =
    if_one s (clears (answered Never s (stop_ccn s.number shut_down) now)) (λ e. queued_one s (control_text (stop_ccn s.number shut_down)) now (t.until e))
