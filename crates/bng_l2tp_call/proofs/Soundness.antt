-- Each step of a call is sound.
use Rattle.std.proofs.Common.{◌≢◌, ◌≡◌, ℕ, ◌==◌, Bool, true, false, ◌&&◌, ◌||◌, not, cond, Option, None, Some, List, length, refl, sym, ap, subst, ◌∙◌, ◌≤◌, lit≤, arith}
use Rattle.std.specs.Prelude.{IsSome, unwrap_or}
use Rattle.std.proofs.lemmas.Bool.{eq-eqb, or_parts}
use Rattle.bng_l2tp_wire.specs.Avps.{L2tpAvp}
use Rattle.bng_l2tp_wire.specs.Messages.{ControlMessage, control_text}
use Rattle.bng_l2tp_call.specs.declared.phase.CallPhase.{CallPhase}
use Rattle.bng_l2tp_call.specs.declared.phase.CallPhase.TheVariants.{Idle, WaitConnect, Established, Ended}
use Rattle.bng_l2tp_call.specs.declared.refusal.CallRefusal.{CallRefusal}
use Rattle.bng_l2tp_call.specs.declared.refusal.CallRefusal.TheVariants.{UnknownAvp, WrongAvp, SequencingRequired, NoSlot}
use Rattle.bng_l2tp_wire.specs.declared.message.TheConstants.{ICRQ, ICCN}
use Rattle.bng_l2tp_wire.specs.declared.kind.TheConstants.{ASSIGNED_SESSION_ID, CALL_SERIAL_NUMBER}
use Rattle.bng_l2tp_wire.specs.Values.{value_of, message_type, assigned_session, has_unreadable}
use Rattle.bng_l2tp_wire.specs.Judge.{is_wrong, has_unknown}
use Rattle.bng_l2tp_wire.proofs.Judging.{first_none, number_there}
use Rattle.bng_l2tp_call.specs.Messages.{lacks_needed}
use Rattle.bng_l2tp_call.specs.CallState.{CallState, is_idle, is_waiting, is_established, is_ended, stands, rank}
use Rattle.bng_l2tp_call.specs.Refusals.{has_wrong_avp, asks_for_sequencing, lacks_slot, refusal_of}
use Rattle.bng_l2tp_call.specs.Spelling.{icrp, cdn, code_of, administrative}
use Rattle.bng_l2tp_call.specs.Steps.{Step, nothing, tells, ends, to_peer, number_of, addressed, refuses, replies, opens, IsAccepted, Hears, passed, refused, requested, connected, disconnected, error_notified, link_set, end_step}
use Rattle.bng_l2tp_call.specs.Sound.{IsSound}
use Rattle.bng_l2tp_call.proofs.Table.{Takes, icrq_idle, iccn_waiting, cdn_waiting, cdn_established, wen_waiting, wen_established, sli_waiting, sli_established, takes}

and_false : (b : Bool) → false ≡ (b && false)
and_false true = refl
and_false false = refl

-- the phases that a step tells of
stays : (p : CallPhase) → (false ≡ (is_waiting p && is_established p)) × (false ≡ (not (is_ended p) && is_ended p))
stays Idle = (refl, refl)
stays WaitConnect = (refl, refl)
stays Established = (refl, refl)
stays Ended = (refl, refl)

other_type : (a b : ℕ) → Some a ≡ Some b → a ≡ b
other_type a b e = ap (λ (o : Option ℕ). unwrap_or o 0) e

idle_of : (p : CallPhase) (type : Option ℕ) → Takes p type → type ≡ Some ICRQ → p ≡ Idle
idle_of p type icrq_idle e = refl
idle_of p type iccn_waiting e = absurd (let h = other_type 12 10 e in omega arith)
idle_of p type cdn_waiting e = absurd (let h = other_type 14 10 e in omega arith)
idle_of p type cdn_established e = absurd (let h = other_type 14 10 e in omega arith)
idle_of p type wen_waiting e = absurd (let h = other_type 15 10 e in omega arith)
idle_of p type wen_established e = absurd (let h = other_type 15 10 e in omega arith)
idle_of p type sli_waiting e = absurd (let h = other_type 16 10 e in omega arith)
idle_of p type sli_established e = absurd (let h = other_type 16 10 e in omega arith)

waiting_of : (p : CallPhase) (type : Option ℕ) → Takes p type → type ≡ Some ICCN → p ≡ WaitConnect
waiting_of p type icrq_idle e = absurd (let h = other_type 10 12 e in omega arith)
waiting_of p type iccn_waiting e = refl
waiting_of p type cdn_waiting e = refl
waiting_of p type cdn_established e = absurd (let h = other_type 14 12 e in omega arith)
waiting_of p type wen_waiting e = refl
waiting_of p type wen_established e = absurd (let h = other_type 15 12 e in omega arith)
waiting_of p type sli_waiting e = refl
waiting_of p type sli_established e = absurd (let h = other_type 16 12 e in omega arith)

going_on : (p : CallPhase) (type : Option ℕ) → Takes p type → is_ended p ≡ false
going_on p type icrq_idle = refl
going_on p type iccn_waiting = refl
going_on p type cdn_waiting = refl
going_on p type cdn_established = refl
going_on p type wen_waiting = refl
going_on p type wen_established = refl
going_on p type sli_waiting = refl
going_on p type sli_established = refl

-- What holds of a message that is not refused ------------------------------------------------------------------------------------------------

pub record IsRight (s : CallState) (avps : List L2tpAvp) : Type 0 where
  pub wrong : has_wrong_avp s.secret (message_type avps) avps ≡ false
  pub slot : lacks_slot s.session (message_type avps) ≡ false

right : (s : CallState) (avps : List L2tpAvp) → refusal_of s avps ≡ None → IsRight s avps
unfolding refusal_of
right s avps e =
    let a = first_none (has_unknown avps) _ _ e in
    let b = first_none (has_wrong_avp s.secret (message_type avps) avps) _ _ a.1 in
    let c = first_none (asks_for_sequencing (message_type avps) avps) _ _ b.1 in
    let d = first_none (lacks_slot s.session (message_type avps)) _ _ c.1 in
    record { wrong = b.0; slot = d.0 }

-- an ICRQ that is not refused has the peer's session
has_session : (s : CallState) (avps : List L2tpAvp) → message_type avps ≡ Some ICRQ → has_wrong_avp s.secret (message_type avps) avps ≡ false → IsSome (assigned_session s.secret avps)
has_session s avps e w =
    let all : (lacks_needed s.secret (Some ICRQ) avps || has_unreadable s.secret avps) ≡ false = subst (λ (x : Option ℕ). has_wrong_avp s.secret x avps ≡ false) e w in
    let needed : (is_wrong ASSIGNED_SESSION_ID (value_of s.secret ASSIGNED_SESSION_ID avps) || (is_wrong CALL_SERIAL_NUMBER (value_of s.secret CALL_SERIAL_NUMBER avps) || false)) ≡ false =
    (or_parts _ false (or_parts _ _ all).0).0 in
    number_there ASSIGNED_SESSION_ID (value_of s.secret ASSIGNED_SESSION_ID avps) (λ (octets : List ℕ). refl) (or_parts (is_wrong ASSIGNED_SESSION_ID (value_of s.secret ASSIGNED_SESSION_ID avps)) _ needed).0

-- an ICRQ that is not refused has a number to give
has_slot : (s : CallState) (avps : List L2tpAvp) → message_type avps ≡ Some ICRQ → lacks_slot s.session (message_type avps) ≡ false → s.session ≢ 0
has_slot s avps e l = λ zero_is.
    let lacks : (s.session == 0) ≡ false = subst (λ (x : Option ℕ). lacks_slot s.session x ≡ false) e l in
    absurd (let yes = eq-eqb s.session 0 zero_is in cc)

-- The steps -------------------------------------------------------------------------------------------------------------------------------

cdn_short : (session number : ℕ) (cause : CallRefusal) → length (control_text (cdn session number (code_of cause))) ≤ 512
cdn_short session number UnknownAvp = lit≤ tt
cdn_short session number WrongAvp = lit≤ tt
cdn_short session number SequencingRequired = lit≤ tt
cdn_short session number NoSlot = lit≤ tt

nothing_sound : (s : CallState) → IsSound s (nothing s)
nothing_sound s = record {
  kept = λ t. t;
  few = lit≤ tt;
  outs = tt;
  over = λ _. refl;
  onward = omega arith;
  opened = (stays s.phase).0;
  ended = (stays s.phase).1;
  established = refl;
  cleared = refl;
  call = refl;
  left_out = refl;
  secret = refl;
  session = refl;
}

addressed_keeps : (s : CallState) (avps : List L2tpAvp) → ((addressed s avps).secret ≡ s.secret) × ((addressed s avps).session ≡ s.session)
addressed_keeps s avps =
    by (is_idle s.phase)
  where
    by : (b : Bool) → ((cond b (record s { peer_number = assigned_session s.secret avps }) s).secret ≡ s.secret) × ((cond b (record s { peer_number = assigned_session s.secret avps }) s).session ≡ s.session)
    by true = (refl, refl)
    by false = (refl, refl)

ends_told : (p : CallPhase) → is_ended p ≡ false → true ≡ (not (is_ended p) && is_ended Ended)
ends_told p e = sym (ap (λ (b : Bool). not b && true) e)

at_most : (p : CallPhase) → rank p ≤ rank Ended
at_most Idle = lit≤ tt
at_most WaitConnect = lit≤ tt
at_most Established = lit≤ tt
at_most Ended = lit≤ tt

refuses_sound : (s : CallState) (avps : List L2tpAvp) (cause : CallRefusal) → is_ended s.phase ≡ false → IsSound s (refuses s avps cause)
refuses_sound s avps cause e = record {
  kept = λ t. record { numbered = λ no. absurd cc; addressed = λ no. absurd cc };
  few = lit≤ tt;
  outs = (
    record {
      message = cdn (to_peer (addressed s avps)) (number_of s) (code_of cause);
      text = refl;
      session_is = refl;
      tunnel_is = refl;
      ns_is = refl;
      nr_is = refl;
      short = cdn_short (to_peer (addressed s avps)) (number_of s) cause;
    },
    tt,
  );
  over = λ yes. absurd (let no = sym e ∙ yes in cc);
  onward = at_most s.phase;
  opened = and_false (is_waiting s.phase);
  ended = ends_told s.phase e;
  established = refl;
  cleared = refl;
  call = refl;
  left_out = refl;
  secret = (addressed_keeps s avps).0;
  session = (addressed_keeps s avps).1;
}

replies_sound : (s : CallState) (avps : List L2tpAvp) → s.phase ≡ Idle → s.session ≢ 0 → IsSome (addressed s avps).peer_number → IsSound s (replies s avps)
replies_sound s avps idle slot there = record {
  kept = λ t. record { numbered = λ yes. λ zero_is. slot (sym (addressed_keeps s avps).1 ∙ zero_is); addressed = λ yes. there };
  few = lit≤ tt;
  outs = (
    record {
      message = icrp (to_peer (addressed s avps)) s.session;
      text = refl;
      session_is = refl;
      tunnel_is = refl;
      ns_is = refl;
      nr_is = refl;
      short = lit≤ tt;
    },
    tt,
  );
  over = λ yes. absurd (let no = sym (ap is_ended idle) ∙ yes in cc);
  onward = omega (arith, ap rank idle);
  opened = and_false (is_waiting s.phase);
  ended = and_false (not (is_ended s.phase));
  established = refl;
  cleared = refl;
  call = refl;
  left_out = refl;
  secret = (addressed_keeps s avps).0;
  session = (addressed_keeps s avps).1;
}

opens_sound : (s : CallState) → s.phase ≡ WaitConnect → IsSound s (opens s)
opens_sound s e = record {
  kept = λ t. record { numbered = λ yes. t.numbered (ap stands e); addressed = λ yes. t.addressed (ap stands e) };
  few = lit≤ tt;
  outs = tt;
  over = λ yes. absurd (let no = sym (ap is_ended e) ∙ yes in cc);
  onward = omega (arith, ap rank e);
  opened = sym (ap (λ (p : CallPhase). is_waiting p && true) e);
  ended = and_false (not (is_ended s.phase));
  established = refl;
  cleared = refl;
  call = refl;
  left_out = refl;
  secret = refl;
  session = refl;
}

disconnects_sound : (s : CallState) → is_ended s.phase ≡ false → IsSound s (ends (nothing s))
disconnects_sound s e = record {
  kept = λ t. record { numbered = λ no. absurd cc; addressed = λ no. absurd cc };
  few = lit≤ tt;
  outs = tt;
  over = λ yes. absurd (let no = sym e ∙ yes in cc);
  onward = at_most s.phase;
  opened = and_false (is_waiting s.phase);
  ended = ends_told s.phase e;
  established = refl;
  cleared = refl;
  call = refl;
  left_out = refl;
  secret = refl;
  session = refl;
}

module _ (s : CallState) (m : ControlMessage) where
  number_read : s.phase ≡ Idle → IsSome (assigned_session s.secret m.avps) → IsSome (addressed s m.avps).peer_number
  number_read e there =
      subst (λ (p : CallPhase). IsSome (cond (is_idle p) (record s { peer_number = assigned_session s.secret m.avps }) s).peer_number) (sym e) there

  requested_sound : IsAccepted s m ICRQ → IsSound s (replies s m.avps)
  requested_sound a =
      let r = right s m.avps a.right in
      let idle = idle_of s.phase (message_type m.avps) (takes s.phase (message_type m.avps) a.taken) a.type_is in
      replies_sound s m.avps idle (has_slot s m.avps a.type_is r.slot) (number_read idle (has_session s m.avps a.type_is r.wrong))

  pub hears_sound : {step : Step} → Hears s m step → IsSound s step
  hears_sound (passed e) = nothing_sound s
  hears_sound (refused {cause} r) = refuses_sound s m.avps cause (going_on s.phase (message_type m.avps) (takes s.phase (message_type m.avps) r.taken))
  hears_sound (requested a) = requested_sound a
  hears_sound (connected a) = opens_sound s (waiting_of s.phase (message_type m.avps) (takes s.phase (message_type m.avps) a.taken) a.type_is)
  hears_sound (disconnected a) = disconnects_sound s (going_on s.phase (message_type m.avps) (takes s.phase (message_type m.avps) a.taken))
  hears_sound (error_notified a) = nothing_sound s
  hears_sound (link_set a) = nothing_sound s

-- the gateway ends a call that stands
end_told_sound : (s : CallState) → is_ended s.phase ≡ false → IsSound s (ends (tells s (cdn (to_peer s) s.session administrative)))
end_told_sound s e = record {
  kept = λ t. record { numbered = λ no. absurd cc; addressed = λ no. absurd cc };
  few = lit≤ tt;
  outs = (
    record {
      message = cdn (to_peer s) s.session administrative;
      text = refl;
      session_is = refl;
      tunnel_is = refl;
      ns_is = refl;
      nr_is = refl;
      short = lit≤ tt;
    },
    tt,
  );
  over = λ yes. absurd (let no = sym e ∙ yes in cc);
  onward = at_most s.phase;
  opened = and_false (is_waiting s.phase);
  ended = ends_told s.phase e;
  established = refl;
  cleared = refl;
  call = refl;
  left_out = refl;
  secret = refl;
  session = refl;
}

standing : (p : CallPhase) → stands p ≡ true → is_ended p ≡ false
standing Idle e = absurd cc
standing WaitConnect e = refl
standing Established e = refl
standing Ended e = absurd cc

pub end_sound : (s : CallState) → IsSound s (end_step s)
unfolding end_step
end_sound s =
    by (stands s.phase) refl
  where
    by : (b : Bool) → stands s.phase ≡ b → IsSound s (cond b (ends (tells s (cdn (to_peer s) s.session administrative))) (nothing s))
    by true e = end_told_sound s (standing s.phase e)
    by false e = nothing_sound s
