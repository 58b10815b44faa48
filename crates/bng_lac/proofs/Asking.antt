-- Each call is asked for once: its ICRQ stands in the channel behind what was there.
use Rattle.std.proofs.Common.{◌≡◌, ℕ, ◌+◌, ◌<◌, ◌≤◌, Bool, true, false, ◌&&◌, ◌||◌, not, cond, nat_lt, nat_le, Option, None, Some, List, [], ◌∷◌, ◌++◌, length, map, refl, sym, ap, ◌∙◌, arith, append_assoc, append-nil, length-append, length-drop, lt-ltb}
use Rattle.std.proofs.lemmas.Bool.{false≢true}
use Rattle.bng_base.specs.declared.address.SessionNo.{SessionNo}
use Rattle.bng_l2tp_reliable.specs.declared.answers.Heard.{Heard}
use Rattle.bng_l2tp_reliable.specs.declared.answers.Heard.TheVariants.{Deliver, Repeat, Ahead, Acked}
use Rattle.bng_l2tp_reliable.specs.ChannelState.{ChannelState, Message, waiting, with_window}
use Rattle.bng_l2tp_reliable.specs.Calls.{queued}
use Rattle.bng_l2tp_wire.specs.Avps.{L2tpAvp}
use Rattle.bng_l2tp_wire.specs.Messages.{ControlMessage}
use Rattle.bng_l2tp_tunnel.specs.declared.acknowledging.Acknowledging.TheVariants.{ByZlb}
use Rattle.bng_l2tp_tunnel.specs.declared.refusal.TunnelRefusal.{TunnelRefusal}
use Rattle.bng_l2tp_wire.specs.Values.{value_of, message_type, assigned_tunnel, window_of}
use Rattle.bng_l2tp_wire.specs.Judge.{is_type}
use Rattle.bng_l2tp_tunnel.specs.Outs.{flight_most}
use Rattle.bng_l2tp_tunnel.proofs.Texts.{after_out-keeps}
use Rattle.bng_lac.specs.declared.call.LacCall.{LacCall}
use Rattle.bng_lac.specs.declared.called.Called.TheVariants.{Asked, Full}
use Rattle.bng_l2tp_wire.specs.declared.message.TheConstants.{SCCRP, STOP_CCN}
use Rattle.bng_l2tp_wire.specs.declared.kind.TheConstants.{CHALLENGE}
use Rattle.bng_lac.specs.LacState.{LacState, is_waiting, is_established}
use Rattle.bng_lac.specs.Messages.{is_of_call}
use Rattle.bng_lac.specs.Refusals.{refusal_of}
use Rattle.bng_lac.specs.Spelling.{scccn, icrq}
use Rattle.bng_lac.specs.Calls.{call_of, with_call, new_call}
use Rattle.bng_lac.specs.Steps.{Step, waiting_most, flushed, Asking, serial_after, asks, asks_each, connecting, established, ended, accepted, judged, learned, heard_by_call, heard, heard_by, having_heard, lac_step, called_of, asked_for, with_new_call, called}
use Rattle.bng_lac.specs.Sound.{held, icrqs, AsksEach}
use Rattle.bng_lac.proofs.Passed.{passed, waiting_if}
use Rattle.bng_lac.proofs.Heard.{by_call_quiet}

module _ (c : ChannelState) (m : Message) (now : ℕ) (room : length (waiting c) < 64) where
  queued_messages : (queued c m now).messages ≡ c.messages ++ m ∷ []
  queued_messages = ap (λ (b : Bool). cond b (c.messages ++ m ∷ []) c.messages) (lt-ltb (length (waiting c)) 64 room)

  queued_waiting : length (waiting (queued c m now)) ≤ length (waiting c) + 1
  queued_waiting =
      omega (arith, ap (λ (ms : List Message). length ms) queued_messages, length-append c.messages (m ∷ []), length-drop (length c.sends) (queued c m now).messages, length-drop (length c.sends) c.messages)

or_no : (b : Bool) → (b || false) ≡ b
or_no true = refl
or_no false = refl

-- what becomes of the ICRQs where there is room for each
record AreAsked (a : Asking) (cs : List LacCall) (after : Asking) : Type 0 where
  messages : after.channel.messages ≡ a.channel.messages ++ map held (icrqs a.serial cs)
  left_out : after.left_out ≡ a.left_out

asks_all : (a : Asking) (cs : List LacCall) (now : ℕ) → length (waiting a.channel) + length cs ≤ 64 → AreAsked a cs (asks_each a cs now)
asks_all a [] now room = record { messages = sym (append-nil a.channel.messages); left_out = refl }
asks_all a (c ∷ cs) now room =
    let m = held (icrq c.session.0 a.serial) in
    let one : length (waiting a.channel) < 64 = omega (arith, room) in
    let first = queued_messages a.channel m now one in
    let others = map held (icrqs (serial_after a.serial) cs) in
    let rest = asks_all (asks a c now) cs now (omega (arith, room, queued_waiting a.channel m now one)) in
    record {
      messages = rest.messages ∙ ap (λ (ms : List Message). ms ++ others) first ∙ append_assoc a.channel.messages (m ∷ []) others;
      left_out = rest.left_out ∙ ap (λ (b : Bool). a.left_out || not b) (lt-ltb (length (waiting a.channel)) 64 one) ∙ or_no a.left_out;
    }

-- an SCCRP that is taken where nothing waits in the channel
module _ (s : LacState) (avps : List L2tpAvp) (now : ℕ) (none : waiting s.channel ≡ []) (few : length s.calls ≤ 63) where
  connects : AreAsked (connecting s.channel s.secret s.serial avps now) s.calls (asks_each (connecting s.channel s.secret s.serial avps now) s.calls now)
  connects =
      let c = with_window s.channel (window_of s.secret avps) in
      let m = held (scccn s.secret (value_of s.secret CHALLENGE avps)) in
      let room : length (waiting c) < 64 = omega (arith, ap (λ (ms : List Message). length ms) none) in
      asks_all (connecting s.channel s.secret s.serial avps now) s.calls now (omega (arith, few, queued_waiting c m now room, ap (λ (ms : List Message). length ms) none))

  connected : (established s avps now).after.channel.messages ≡ s.channel.messages ++ map held (scccn s.secret (value_of s.secret CHALLENGE avps) ∷ icrqs s.serial s.calls)
  connected =
      let c = with_window s.channel (window_of s.secret avps) in
      let m = held (scccn s.secret (value_of s.secret CHALLENGE avps)) in
      let room : length (waiting c) < 64 = omega (arith, ap (λ (ms : List Message). length ms) none) in
      let others = map held (icrqs s.serial s.calls) in
      (after_out-keeps flight_most (asks_each (connecting s.channel s.secret s.serial avps now) s.calls now).channel).0
      ∙ connects.messages ∙ ap (λ (ms : List Message). ms ++ others) (queued_messages c m now room) ∙ append_assoc s.channel.messages (m ∷ []) others

  connected_all : (established s avps now).said.left_out ≡ false
  connected_all =
      let room : length (waiting s.channel) < 64 = omega (arith, ap (λ (ms : List Message). length ms) none) in
      connects.left_out ∙ ap not (lt-ltb (length (waiting s.channel)) 64 room)

-- Messages -------------------------------------------------------------------------------------------------------------------------------

-- an SCCRP after which all that was to be said stands in the channel
record HasAsked (s : LacState) (avps : List L2tpAvp) (step : Step) : Type 0 where
  messages : step.after.channel.messages ≡ s.channel.messages ++ map held (scccn s.secret (value_of s.secret CHALLENGE avps) ∷ icrqs s.serial s.calls)
  left_out : step.said.left_out ≡ false

module _ (s : LacState) (m : ControlMessage) (now : ℕ) (none : waiting s.channel ≡ []) (few : length s.calls ≤ 63) where
  reply_asks : is_waiting s.phase ≡ true → HasAsked s m.avps (established (learned s m.avps) m.avps now)
  reply_asks w =
      by (is_waiting s.phase) w
    where
      by : (b : Bool) → b ≡ true → HasAsked s m.avps (established (cond b (record s { peer_number = assigned_tunnel s.secret m.avps }) s) m.avps now)
      by true w =
          let r = record s { peer_number = assigned_tunnel s.secret m.avps } in
          record { messages = connected r m.avps now none few; left_out = connected_all r m.avps now none few }
      by false w = absurd (false≢true w)

  accepted_asks : (is_type (message_type m.avps) SCCRP ≡ true → is_waiting s.phase ≡ true) → (accepted (learned s m.avps) (message_type m.avps) m.avps now).said.established ≡ true
      → HasAsked s m.avps (accepted (learned s m.avps) (message_type m.avps) m.avps now)
  accepted_asks waits e =
      by (is_type (message_type m.avps) SCCRP) (is_type (message_type m.avps) STOP_CCN) refl e
    where
      by : (a b : Bool) → is_type (message_type m.avps) SCCRP ≡ a
          → (cond a (established (learned s m.avps) m.avps now) (cond b (ended (learned s m.avps)) (flushed ByZlb (learned s m.avps)))).said.established ≡ true
          → HasAsked s m.avps (cond a (established (learned s m.avps) m.avps now) (cond b (ended (learned s m.avps)) (flushed ByZlb (learned s m.avps))))
      by true b q e = reply_asks (waits q)
      by false true q e = absurd (false≢true e)
      by false false q e = absurd (false≢true e)

  judged_asks : (refusal : Option TunnelRefusal) → refusal_of s m.avps ≡ refusal → (judged (learned s m.avps) m.avps now refusal).said.established ≡ true
      → HasAsked s m.avps (judged (learned s m.avps) m.avps now refusal)
  judged_asks None q e = accepted_asks (λ type. waiting_if s.phase (message_type m.avps) type (passed s m.avps q).taken) e
  judged_asks (Some refusal) q e = absurd (false≢true e)

  heard_asks : (answer : Heard) → (heard s m now answer).said.established ≡ true → HasAsked s m.avps (heard s m now answer)
  heard_asks Deliver e =
      by (is_established s.phase && is_of_call (message_type m.avps)) e
    where
      by : (b : Bool) → (cond b (heard_by_call s m.avps now (call_of m.session s.calls)) (judged (learned s m.avps) m.avps now (refusal_of s m.avps))).said.established ≡ true
          → HasAsked s m.avps (cond b (heard_by_call s m.avps now (call_of m.session s.calls)) (judged (learned s m.avps) m.avps now (refusal_of s m.avps)))
      by true e = absurd (false≢true (sym (by_call_quiet s m now (call_of m.session s.calls)) ∙ e))
      by false e = judged_asks (refusal_of s m.avps) refl e
  heard_asks Repeat e = absurd (false≢true e)
  heard_asks Ahead e = absurd (false≢true e)
  heard_asks Acked e = absurd (false≢true e)

pub lac_asks : (s : LacState) (m : ControlMessage) (random : List ℕ) (now : ℕ) → waiting (having_heard s m now).channel ≡ [] → length s.calls ≤ 63
    → (lac_step s m random now).said.established ≡ true → AsksEach s m now (lac_step s m random now)
unfolding lac_step
lac_asks s m random now none few e =
    let x = heard_asks (having_heard s m now) m now none few (heard_by s m) e in record { messages = x.messages; left_out = x.left_out }

-- A call of an established tunnel --------------------------------------------------------------------------------------------------------

pub called_asks : (s : LacState) (session : SessionNo) (now : ℕ) → is_established s.phase ≡ true → called_of s ≡ Asked
    → (called s session now).channel.messages ≡ s.channel.messages ++ held (icrq session.0 s.serial) ∷ []
called_asks s session now e asked =
    by (is_waiting s.phase && nat_le waiting_most (length s.calls)) (nat_lt (length (waiting s.channel)) 64) asked refl
  where
    add : (b : Bool) → b ≡ true → nat_lt (length (waiting s.channel)) 64 ≡ true
        → (let asking = cond b (asked_for s session.0 now) s in record asking { calls = with_call (new_call session) s.calls }).channel.messages ≡ s.channel.messages ++ held (icrq session.0 s.serial) ∷ []
    add true q room = ap (λ (x : Bool). cond x (s.channel.messages ++ held (icrq session.0 s.serial) ∷ []) s.channel.messages) room
    add false q room = absurd (false≢true q)

    by : (a b : Bool) → cond (a || not b) Full Asked ≡ Asked → nat_lt (length (waiting s.channel)) 64 ≡ b
        → (cond (a || not b) s (with_new_call s session now)).channel.messages ≡ s.channel.messages ++ held (icrq session.0 s.serial) ∷ []
    by true b is q = absurd cc
    by false false is q = absurd cc
    by false true is q = add (is_established s.phase) e q
