-- What a message does to the calls of a tunnel, and that it is acknowledged.
use Rattle.std.proofs.Common.{◌≡◌, ℕ, ◌<◌, Bool, true, false, ◌&&◌, not, cond, Option, None, Some, is_some, List, [], ◌∷◌, ◌++◌, length, map, option_to_list, refl, sym, ap, ◌∙◌, arith, length-append}
use Rattle.std.proofs.lemmas.Bool.{false≢true}
use Rattle.bng_l2tp_reliable.specs.declared.answers.Heard.{Heard}
use Rattle.bng_l2tp_reliable.specs.declared.answers.Heard.TheVariants.{Deliver, Repeat, Ahead, Acked}
use Rattle.bng_l2tp_reliable.specs.ChannelState.{ChannelState}
use Rattle.bng_l2tp_reliable.specs.Calls.{next_out, after_next}
use Rattle.bng_l2tp_wire.specs.Avps.{L2tpAvp}
use Rattle.bng_l2tp_wire.specs.Messages.{ControlMessage, control_text}
use Rattle.bng_l2tp_tunnel.specs.declared.acknowledging.Acknowledging.TheVariants.{Never, ByAny, ByZlb}
use Rattle.bng_l2tp_tunnel.specs.declared.refusal.TunnelRefusal.{TunnelRefusal}
use Rattle.bng_l2tp_wire.specs.Values.{message_type, assigned_tunnel, assigned_session}
use Rattle.bng_l2tp_wire.specs.Judge.{is_type}
use Rattle.bng_l2tp_tunnel.specs.Outs.{datagram, let_out, after_out, flight_most, zlb, with_zlb, or_zlb}
use Rattle.bng_l2tp_tunnel.specs.Spelling.{stop_ccn, code_of}
use Rattle.bng_l2tp_tunnel.specs.Sound.{IsAnswered}
use Rattle.bng_l2tp_wire.specs.declared.message.TheConstants.{ICRP, SCCRP, STOP_CCN}
use Rattle.bng_lac.specs.declared.call.LacCall.{LacCall}
use Rattle.bng_lac.specs.declared.phase.LacPhase.TheVariants.{Established}
use Rattle.bng_lac.specs.LacState.{LacState, is_waiting, is_established}
use Rattle.bng_lac.specs.Messages.{is_of_call}
use Rattle.bng_lac.specs.Refusals.{refusal_of}
use Rattle.bng_lac.specs.Calls.{call_of}
use Rattle.bng_lac.specs.CallSteps.{call_step}
use Rattle.bng_lac.specs.Steps.{Step, to_peer, flushed, queue_text, asks_each, connecting, established, ended, accepted, judged, learned, calls_after, replied, heard_by_call, delivered, heard, heard_by, having_heard, lac_step}
use Rattle.bng_lac.specs.Sound.{has_call, peer_of, is_up, ChangesOne, BringsUp, IsAnswerOf}
use Rattle.bng_lac.proofs.Laws.{opens_waiting}
use Rattle.bng_lac.proofs.OneCall.{stays_at, call_changes, call_peer}
use Rattle.bng_lac.proofs.Passed.{passed, answers}

-- What is told of the calls --------------------------------------------------------------------------------------------------------------

-- a step that leaves these calls, and tells of none
record IsQuiet (calls : List LacCall) (step : Step) : Type 0 where
  same : step.after.calls ≡ calls
  opened : step.said.opened ≡ false
  ended : step.said.ended ≡ false

quiet_changes : (s : LacState) (m : ControlMessage) (step : Step) → IsQuiet s.calls step → ChangesOne s m step
quiet_changes s m step q =
    let x = stays_at m.session s.calls step.after.calls q.same in
    record { others = x.others; opened = q.opened ∙ x.opened; ended = q.ended ∙ x.ended; kept = λ a b. x.kept refl refl }

learned_calls : (s : LacState) (avps : List L2tpAvp) → (learned s avps).calls ≡ s.calls
learned_calls s avps =
    by (is_waiting s.phase)
  where
    by : (b : Bool) → (cond b (record s { peer_number = assigned_tunnel s.secret avps }) s).calls ≡ s.calls
    by true = refl
    by false = refl

module _ (s : LacState) (avps : List L2tpAvp) (now : ℕ) where
  accepted_quiet : (type : Option ℕ) → (accepted s type avps now).said.cleared ≡ false → IsQuiet s.calls (accepted s type avps now)
  accepted_quiet type =
      by (is_type type SCCRP) (is_type type STOP_CCN)
    where
      by : (a b : Bool) → (cond a (established s avps now) (cond b (ended s) (flushed ByZlb s))).said.cleared ≡ false
          → IsQuiet s.calls (cond a (established s avps now) (cond b (ended s) (flushed ByZlb s)))
      by true b e = record { same = refl; opened = refl; ended = refl }
      by false true e = absurd (false≢true (sym e))
      by false false e = record { same = refl; opened = refl; ended = refl }

  accepted_tells : (type : Option ℕ) → (accepted s type avps now).said.opened ≡ false
  accepted_tells type =
      by (is_type type SCCRP) (is_type type STOP_CCN)
    where
      by : (a b : Bool) → (cond a (established s avps now) (cond b (ended s) (flushed ByZlb s))).said.opened ≡ false
      by true b = refl
      by false true = refl
      by false false = refl

  judged_quiet : (refusal : Option TunnelRefusal) → (judged s avps now refusal).said.cleared ≡ false → IsQuiet s.calls (judged s avps now refusal)
  judged_quiet None e = accepted_quiet (message_type avps) e
  judged_quiet (Some refusal) e = absurd (false≢true (sym e))

  judged_tells : (refusal : Option TunnelRefusal) → (judged s avps now refusal).said.opened ≡ false
  judged_tells None = accepted_tells (message_type avps)
  judged_tells (Some refusal) = refl

replied_calls : (s : LacState) (now : ℕ) (answer : Option (List ℕ)) → (replied s now answer).after.calls ≡ s.calls
replied_calls s now None = refl
replied_calls s now (Some text) = refl

replied_quiet : (s : LacState) (now : ℕ) (answer : Option (List ℕ)) → (replied s now answer).said.established ≡ false
replied_quiet s now None = refl
replied_quiet s now (Some text) = refl

module _ (s : LacState) (m : ControlMessage) (now : ℕ) where
  judged_changes : (judged (learned s m.avps) m.avps now (refusal_of s m.avps)).said.cleared ≡ false → ChangesOne s m (judged (learned s m.avps) m.avps now (refusal_of s m.avps))
  judged_changes e =
      let q = judged_quiet (learned s m.avps) m.avps now (refusal_of s m.avps) e in
      quiet_changes s m (judged (learned s m.avps) m.avps now (refusal_of s m.avps))
      (record { same = q.same ∙ learned_calls s m.avps; opened = q.opened; ended = q.ended })

  by_call_changes : (found : Option LacCall) → call_of m.session s.calls ≡ found → ChangesOne s m (heard_by_call s m.avps now found)
  by_call_changes None is = quiet_changes s m (flushed ByZlb s) (record { same = refl; opened = refl; ended = refl })
  by_call_changes (Some c) is =
      let call = call_step s.secret c m.avps in
      let x = call_changes s.secret c m.avps m.session s.calls is in
      let calls = calls_after c call.after s.calls in
      let same : (heard_by_call s m.avps now (Some c)).after.calls ≡ calls = replied_calls (record s { calls = calls }) now call.answer in
      record {
        others = λ k differ. ap (call_of k) same ∙ x.others k differ;
        opened = x.opened ∙ ap (λ (cs : List LacCall). not (is_up m.session s.calls) && is_up m.session cs) (sym same);
        ended = x.ended ∙ ap (λ (cs : List LacCall). has_call m.session s.calls && not (has_call m.session cs)) (sym same);
        kept = λ a b. ap (call_of m.session) same ∙ x.kept a b;
      }

  delivered_changes : (delivered s m now).said.cleared ≡ false → ChangesOne s m (delivered s m now)
  delivered_changes =
      by (is_established s.phase && is_of_call (message_type m.avps))
    where
      by : (b : Bool) → (cond b (heard_by_call s m.avps now (call_of m.session s.calls)) (judged (learned s m.avps) m.avps now (refusal_of s m.avps))).said.cleared ≡ false
          → ChangesOne s m (cond b (heard_by_call s m.avps now (call_of m.session s.calls)) (judged (learned s m.avps) m.avps now (refusal_of s m.avps)))
      by true e = by_call_changes (call_of m.session s.calls) refl
      by false e = judged_changes e

  heard_changes : (answer : Heard) → (heard s m now answer).said.cleared ≡ false → ChangesOne s m (heard s m now answer)
  heard_changes Deliver e = delivered_changes e
  heard_changes Repeat e = quiet_changes s m (flushed ByZlb s) (record { same = refl; opened = refl; ended = refl })
  heard_changes Ahead e = quiet_changes s m (flushed Never s) (record { same = refl; opened = refl; ended = refl })
  heard_changes Acked e = quiet_changes s m (flushed Never s) (record { same = refl; opened = refl; ended = refl })

pub lac_changes : (s : LacState) (m : ControlMessage) (random : List ℕ) (now : ℕ) → (lac_step s m random now).said.cleared ≡ false → ChangesOne s m (lac_step s m random now)
unfolding lac_step
lac_changes s m random now e =
    let x = heard_changes (having_heard s m now) m now (heard_by s m) e in
    record { others = x.others; opened = x.opened; ended = x.ended; kept = x.kept }

-- What brings a call up -----------------------------------------------------------------------------------------------------------------

-- the message is delivered to a call that waits for it
record IsBroughtUp (s : LacState) (m : ControlMessage) (step : Step) : Type 0 where
  established : is_established s.phase ≡ true
  type : message_type m.avps ≡ Some ICRP
  waits : has_call m.session s.calls ≡ true
  peer : peer_of m.session step.after.calls ≡ assigned_session s.secret m.avps

module _ (s : LacState) (m : ControlMessage) (now : ℕ) where
  by_call_brings : (found : Option LacCall) → call_of m.session s.calls ≡ found → is_established s.phase ≡ true → (heard_by_call s m.avps now found).said.opened ≡ true
      → IsBroughtUp s m (heard_by_call s m.avps now found)
  by_call_brings None is e up = absurd (false≢true up)
  by_call_brings (Some c) is e up =
      let call = call_step s.secret c m.avps in
      let calls = calls_after c call.after s.calls in
      let same : (heard_by_call s m.avps now (Some c)).after.calls ≡ calls = replied_calls (record s { calls = calls }) now call.answer in
      record {
        established = e;
        type = (opens_waiting s.secret c m.avps up).1;
        waits = ap (λ (o : Option LacCall). is_some o) is;
        peer = ap (peer_of m.session) same ∙ call_peer s.secret c m.avps m.session s.calls is up;
      }

  delivered_brings : (delivered s m now).said.opened ≡ true → IsBroughtUp s m (delivered s m now)
  delivered_brings =
      by (is_established s.phase) (is_of_call (message_type m.avps)) refl
    where
      by : (a b : Bool) → is_established s.phase ≡ a
          → (cond (a && b) (heard_by_call s m.avps now (call_of m.session s.calls)) (judged (learned s m.avps) m.avps now (refusal_of s m.avps))).said.opened ≡ true
          → IsBroughtUp s m (cond (a && b) (heard_by_call s m.avps now (call_of m.session s.calls)) (judged (learned s m.avps) m.avps now (refusal_of s m.avps)))
      by true true q up = by_call_brings (call_of m.session s.calls) refl q up
      by true false q up = absurd (false≢true (sym (judged_tells (learned s m.avps) m.avps now (refusal_of s m.avps)) ∙ up))
      by false b q up = absurd (false≢true (sym (judged_tells (learned s m.avps) m.avps now (refusal_of s m.avps)) ∙ up))

pub lac_brings : (s : LacState) (m : ControlMessage) (random : List ℕ) (now : ℕ) → (lac_step s m random now).said.opened ≡ true → BringsUp s m (lac_step s m random now)
unfolding lac_step
lac_brings s m random now up =
    by (heard_by s m) refl up
  where
    by : (answer : Heard) → heard_by s m ≡ answer → (heard (having_heard s m now) m now answer).said.opened ≡ true → BringsUp s m (heard (having_heard s m now) m now answer)
    by Deliver q up =
        let x = delivered_brings (having_heard s m now) m now up in
        record { established = x.established; delivered = q; type = x.type; waits = x.waits; peer = x.peer }
    by Repeat q up = absurd (false≢true up)
    by Ahead q up = absurd (false≢true up)
    by Acked q up = absurd (false≢true up)

-- What is acknowledged ------------------------------------------------------------------------------------------------------------------

some_any : (tunnel : ℕ) (c : ChannelState) (outs : List (List ℕ)) → 0 < length (with_zlb ByAny tunnel c outs)
some_any tunnel c [] = omega arith
some_any tunnel c (o ∷ os) = omega arith

some_zlb : (tunnel : ℕ) (c : ChannelState) (outs : List (List ℕ)) → 0 < length (with_zlb ByZlb tunnel c outs)
some_zlb tunnel c outs = omega (arith, length-append outs (zlb tunnel c ∷ []))

some_or : (tunnel : ℕ) (c : ChannelState) (outs : List (List ℕ)) → 0 < length (or_zlb tunnel c outs)
some_or tunnel c [] = omega arith
some_or tunnel c (o ∷ os) = omega arith

any_some : (s : LacState) → 0 < length (flushed ByAny s).said.outs
any_some s = some_any (to_peer s) (after_out flight_most s.channel) (map (datagram (to_peer s)) (let_out flight_most s.channel))

zlb_some : (s : LacState) → 0 < length (flushed ByZlb s).said.outs
zlb_some s = some_zlb (to_peer s) (after_out flight_most s.channel) (map (datagram (to_peer s)) (let_out flight_most s.channel))

replied_some : (s : LacState) (now : ℕ) (answer : Option (List ℕ)) → 0 < length (replied s now answer).said.outs
replied_some s now None = zlb_some s
replied_some s now (Some text) =
    let c = queue_text (after_out flight_most s.channel) text now in
    some_or (to_peer s) (after_next c (next_out c)) ((flushed Never s).said.outs ++ map (datagram (to_peer s)) (option_to_list (next_out c)))

by_call_some : (s : LacState) (avps : List L2tpAvp) (now : ℕ) (found : Option LacCall) → 0 < length (heard_by_call s avps now found).said.outs
by_call_some s avps now None = zlb_some s
by_call_some s avps now (Some c) =
    let call = call_step s.secret c avps in replied_some (record s { calls = calls_after c call.after s.calls }) now call.answer

module _ (s : LacState) (avps : List L2tpAvp) (now : ℕ) where
  accepted_some : (type : Option ℕ) → 0 < length (accepted s type avps now).said.outs
  accepted_some type =
      by (is_type type SCCRP) (is_type type STOP_CCN)
    where
      by : (a b : Bool) → 0 < length (cond a (established s avps now) (cond b (ended s) (flushed ByZlb s))).said.outs
      by true b =
          let asking = asks_each (connecting s.channel s.secret s.serial avps now) s.calls now in
          any_some (record s { phase = Established; channel = asking.channel; serial = asking.serial })
      by false true = omega arith
      by false false = zlb_some s

  judged_some : (refusal : Option TunnelRefusal) → 0 < length (judged s avps now refusal).said.outs
  judged_some None = accepted_some (message_type avps)
  judged_some (Some refusal) = any_some (record s { channel = queue_text s.channel (control_text (stop_ccn s.number (code_of refusal))) now })

delivered_some : (s : LacState) (m : ControlMessage) (now : ℕ) → 0 < length (delivered s m now).said.outs
delivered_some s m now =
    by (is_established s.phase && is_of_call (message_type m.avps))
  where
    by : (b : Bool) → 0 < length (cond b (heard_by_call s m.avps now (call_of m.session s.calls)) (judged (learned s m.avps) m.avps now (refusal_of s m.avps))).said.outs
    by true = by_call_some s m.avps now (call_of m.session s.calls)
    by false = judged_some (learned s m.avps) m.avps now (refusal_of s m.avps)

heard_answered : (s : LacState) (m : ControlMessage) (now : ℕ) (answer : Heard) → IsAnswered answer (heard s m now answer).said.outs
heard_answered s m now Deliver = delivered_some s m now
heard_answered s m now Repeat = zlb_some s
heard_answered s m now Ahead = tt
heard_answered s m now Acked = tt

pub lac_answered : (s : LacState) (m : ControlMessage) (random : List ℕ) (now : ℕ) → IsAnswered (heard_by s m) (lac_step s m random now).said.outs
unfolding lac_step
lac_answered s m random now = heard_answered (having_heard s m now) m now (heard_by s m)

-- Who may establish a tunnel ------------------------------------------------------------------------------------------------------------

module _ (s : LacState) (m : ControlMessage) (now : ℕ) where
  accepted_authentic : (r : LacState) → (is_type (message_type m.avps) SCCRP ≡ true → IsAnswerOf s m) → (accepted r (message_type m.avps) m.avps now).said.established ≡ true → IsAnswerOf s m
  accepted_authentic r is e =
      by (is_type (message_type m.avps) SCCRP) (is_type (message_type m.avps) STOP_CCN) refl e
    where
      by : (a b : Bool) → is_type (message_type m.avps) SCCRP ≡ a → (cond a (established r m.avps now) (cond b (ended r) (flushed ByZlb r))).said.established ≡ true → IsAnswerOf s m
      by true b q e = is q
      by false true q e = absurd (false≢true e)
      by false false q e = absurd (false≢true e)

  judged_authentic : (refusal : Option TunnelRefusal) → refusal_of s m.avps ≡ refusal → (judged (learned s m.avps) m.avps now refusal).said.established ≡ true → IsAnswerOf s m
  judged_authentic None q e = accepted_authentic (learned s m.avps) (λ type. answers s m type (passed s m.avps q).authorized) e
  judged_authentic (Some refusal) q e = absurd (false≢true e)

  pub by_call_quiet : (found : Option LacCall) → (heard_by_call s m.avps now found).said.established ≡ false
  by_call_quiet None = refl
  by_call_quiet (Some c) =
      let call = call_step s.secret c m.avps in replied_quiet (record s { calls = calls_after c call.after s.calls }) now call.answer

  heard_authentic : (answer : Heard) → (heard s m now answer).said.established ≡ true → IsAnswerOf s m
  heard_authentic Deliver e =
      by (is_established s.phase && is_of_call (message_type m.avps)) e
    where
      by : (b : Bool) → (cond b (heard_by_call s m.avps now (call_of m.session s.calls)) (judged (learned s m.avps) m.avps now (refusal_of s m.avps))).said.established ≡ true → IsAnswerOf s m
      by true e = absurd (false≢true (sym (by_call_quiet (call_of m.session s.calls)) ∙ e))
      by false e = judged_authentic (refusal_of s m.avps) refl e
  heard_authentic Repeat e = absurd (false≢true e)
  heard_authentic Ahead e = absurd (false≢true e)
  heard_authentic Acked e = absurd (false≢true e)

pub lac_authentic : (s : LacState) (m : ControlMessage) (random : List ℕ) (now : ℕ) → (lac_step s m random now).said.established ≡ true → IsAnswerOf s m
unfolding lac_step
lac_authentic s m random now e =
    let x = heard_authentic (having_heard s m now) m now (heard_by s m) e in record { type = x.type; answer = x.answer }
