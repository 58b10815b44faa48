-- What the answer to a message tells of it.
use Rattle.std.proofs.Common.{◌≡◌, ℕ, Bool, true, false, ◌&&◌, ◌||◌, cond, inl, inr, Option, Some, List, [], ◌∷◌, refl, sym, ap, subst, ◌∙◌}
use Rattle.bng_l2tp_wire.specs.Messages.{ControlMessage, control_text}
use Rattle.bng_l2tp_call.specs.declared.phase.CallPhase.{CallPhase}
use Rattle.bng_l2tp_call.specs.declared.phase.CallPhase.TheVariants.{Idle, WaitConnect, Established, Ended}
use Rattle.bng_l2tp_call.specs.declared.refusal.CallRefusal.{CallRefusal}
use Rattle.bng_l2tp_wire.specs.declared.message.TheConstants.{ICRQ, ICCN, CDN, WEN, SLI}
use Rattle.bng_l2tp_wire.specs.Values.{message_type, assigned_session}
use Rattle.bng_l2tp_wire.specs.View.{Said}
use Rattle.bng_l2tp_wire.specs.Judge.{is_type}
use Rattle.bng_l2tp_call.specs.Messages.{is_taken}
use Rattle.bng_l2tp_call.specs.CallState.{CallState, is_idle, stands}
use Rattle.bng_l2tp_call.specs.Refusals.{IsRefused}
use Rattle.bng_l2tp_call.specs.Spelling.{cdn, code_of, administrative, TellsCode, TellsReply}
use Rattle.bng_l2tp_call.specs.Steps.{Step, nothing, tells, ends, to_peer, number_of, addressed, IsAccepted, IsLast, Hears, passed, refused, requested, connected, disconnected, error_notified, link_set, end_step}
use Rattle.bng_l2tp_call.specs.Cases.{message_step}
use Rattle.bng_l2tp_call.specs.Sound.{peer_number_after}
use Rattle.bng_l2tp_call.proofs.Table.{Takes, icrq_idle, iccn_waiting, cdn_waiting, cdn_established, wen_waiting, wen_established, sli_waiting, sli_established, takes, message_hears, hears_is, refused_step}
use Rattle.bng_l2tp_call.proofs.Codes.{same_cause, icrp_tells_none}

first_text : (x : List ℕ) (y : List ℕ) → x ∷ [] ≡ y ∷ [] → x ≡ y
first_text x y e = cc

module _ (s : CallState) (m : ControlMessage) where
  -- a CDN with the code of a cause goes out only where the message is refused for it
  pub told_refused : {step : Step} → Hears s m step → (cause : CallRefusal) → TellsCode (code_of cause) step.said.outs → IsRefused s m cause
  told_refused (passed e) cause t = absurd (let h = t.text in cc)
  told_refused (refused {cause = other} r) cause t =
      subst (λ (x : CallRefusal). IsRefused s m x) (same_cause (to_peer (addressed s m.avps)) (number_of s) t.session t.number other cause (first_text _ _ t.text)) r
  told_refused (requested a) cause t = absurd (icrp_tells_none (to_peer (addressed s m.avps)) s.session t.session t.number cause (first_text _ _ t.text))
  told_refused (connected a) cause t = absurd (let h = t.text in cc)
  told_refused (disconnected a) cause t = absurd (let h = t.text in cc)
  told_refused (error_notified a) cause t = absurd (let h = t.text in cc)
  told_refused (link_set a) cause t = absurd (let h = t.text in cc)

  pub refused_told : {step : Step} → Hears s m step → (cause : CallRefusal) → IsRefused s m cause → TellsCode (code_of cause) step.said.outs
  refused_told {step} h cause r = record {
    session = to_peer (addressed s m.avps);
    number = number_of s;
    text = ap (λ (x : Step). x.said.outs) (hears_is s m h ∙ refused_step s m cause r);
  }

  -- an ICRP goes out only where an ICRQ is accepted
  pub told_reply : {step : Step} → Hears s m step → TellsReply step.said.outs → IsAccepted s m ICRQ
  told_reply (passed e) t = absurd (let h = t.text in cc)
  told_reply (refused {cause = other} r) t =
      absurd (icrp_tells_none t.session t.number (to_peer (addressed s m.avps)) (number_of s) other (sym (first_text _ _ t.text)))
  told_reply (requested a) t = a
  told_reply (connected a) t = absurd (let h = t.text in cc)
  told_reply (disconnected a) t = absurd (let h = t.text in cc)
  told_reply (error_notified a) t = absurd (let h = t.text in cc)
  told_reply (link_set a) t = absurd (let h = t.text in cc)

  pub reply_told : {step : Step} → Hears s m step → IsAccepted s m ICRQ → TellsReply step.said.outs
  reply_told h a = record {
    session = to_peer (addressed s m.avps);
    number = s.session;
    text = ap (λ (x : Step). x.said.outs) (hears_is s m h ∙ sym (hears_is s m (requested a)));
  }

  -- a call ends by a CDN or a refusal alone
  pub ended_last : {step : Step} → Hears s m step → step.said.ended ≡ true → IsLast s m
  ended_last (passed e) o = absurd cc
  ended_last (refused {cause} r) o = inr (cause, r)
  ended_last (requested a) o = absurd cc
  ended_last (connected a) o = absurd cc
  ended_last (disconnected a) o = inl a
  ended_last (error_notified a) o = absurd cc
  ended_last (link_set a) o = absurd cc

  pub last_ended : {step : Step} → Hears s m step → IsLast s m → step.said.ended ≡ true
  last_ended h (inl a) = ap (λ (x : Step). x.said.ended) (hears_is s m h ∙ sym (hears_is s m (disconnected a)))
  last_ended h (inr r) = ap (λ (x : Step). x.said.ended) (hears_is s m h ∙ refused_step s m r.0 r.1)

  -- a call opens by an ICCN alone
  pub opened_accepted : {step : Step} → Hears s m step → step.said.opened ≡ true → IsAccepted s m ICCN
  opened_accepted (passed e) o = absurd cc
  opened_accepted (refused r) o = absurd cc
  opened_accepted (requested a) o = absurd cc
  opened_accepted (connected a) o = a
  opened_accepted (disconnected a) o = absurd cc
  opened_accepted (error_notified a) o = absurd cc
  opened_accepted (link_set a) o = absurd cc

  pub accepted_opened : {step : Step} → Hears s m step → IsAccepted s m ICCN → step.said.opened ≡ true
  accepted_opened h a = ap (λ (x : Step). x.said.opened) (hears_is s m h ∙ sym (hears_is s m (connected a)))

-- what was given, and the call after it, as one step
pub same_step : (step : Step) (said : Said) (after : CallState) → said ≡ step.said → after ≡ step.after → record { said = said; after = after } ≡ step
same_step step said after e f = ap (λ (w : Said). record { said = w; after = after }) e ∙ ap (λ (a : CallState). record { said = step.said; after = a }) f

-- a call that stands tells its end
pub end_tells : (s : CallState) → stands s.phase ≡ true → TellsCode administrative (end_step s).said.outs
unfolding end_step
end_tells s e = record {
  session = to_peer s;
  number = s.session;
  text = ap (λ (b : Bool). (cond b (ends (tells s (cdn (to_peer s) s.session administrative))) (nothing s)).said.outs) e;
}

pub told_end : (s : CallState) → TellsCode administrative (end_step s).said.outs → stands s.phase ≡ true
unfolding end_step
told_end s t =
    by (stands s.phase) t.text
  where
    by : (b : Bool) → (cond b (ends (tells s (cdn (to_peer s) s.session administrative))) (nothing s)).said.outs ≡ control_text (cdn t.session t.number administrative) ∷ [] → b ≡ true
    by true e = refl
    by false e = absurd cc

-- The peer's session --------------------------------------------------------------------------------------------------------------------------

and_true_false : (b : Bool) → (b && true) ≡ false → b ≡ false
and_true_false true e = absurd cc
and_true_false false e = refl

or_first : (a b : Bool) → (a || b) ≡ false → a ≡ false
or_first true b e = absurd cc
or_first false b e = refl

no_request : (p : CallPhase) (type : Option ℕ) → is_taken p type ≡ false → (is_idle p && is_type type ICRQ) ≡ false
no_request Idle type e = and_true_false (is_type type ICRQ) (or_first (is_type type ICRQ && true) _ e)
no_request WaitConnect type e = refl
no_request Established type e = refl
no_request Ended type e = refl

and_none : (a : Bool) → (a && false) ≡ false
and_none true = refl
and_none false = refl

module _ (s : CallState) (m : ControlMessage) where
  refused_number : (p : CallPhase) (type : Option ℕ) → Takes p type → (cond (is_idle p) (record s { peer_number = assigned_session s.secret m.avps }) s).peer_number ≡ cond (is_idle p && is_type type ICRQ) (assigned_session s.secret m.avps) s.peer_number
  refused_number p type icrq_idle = refl
  refused_number p type iccn_waiting = refl
  refused_number p type cdn_waiting = refl
  refused_number p type cdn_established = refl
  refused_number p type wen_waiting = refl
  refused_number p type wen_established = refl
  refused_number p type sli_waiting = refl
  refused_number p type sli_established = refl

  unread : (is_idle s.phase && is_type (message_type m.avps) ICRQ) ≡ false → s.peer_number ≡ peer_number_after s m
  unread e = sym (ap (λ (b : Bool). cond b (assigned_session s.secret m.avps) s.peer_number) e)

  other_row : (type : ℕ) → is_type (Some type) ICRQ ≡ false → message_type m.avps ≡ Some type → s.peer_number ≡ peer_number_after s m
  other_row type n e =
      unread (ap (λ (x : Option ℕ). is_idle s.phase && is_type x ICRQ) e ∙ ap (λ (b : Bool). is_idle s.phase && b) n ∙ and_none (is_idle s.phase))

  pub hears_number : {step : Step} → Hears s m step → step.after.peer_number ≡ peer_number_after s m
  hears_number (passed e) = unread (no_request s.phase (message_type m.avps) e)
  hears_number (refused r) = refused_number s.phase (message_type m.avps) (takes s.phase (message_type m.avps) r.taken)
  hears_number (requested a) = refused_number s.phase (message_type m.avps) (takes s.phase (message_type m.avps) a.taken)
  hears_number (connected a) = other_row ICCN refl a.type_is
  hears_number (disconnected a) = other_row CDN refl a.type_is
  hears_number (error_notified a) = other_row WEN refl a.type_is
  hears_number (link_set a) = other_row SLI refl a.type_is

  -- what was given, and the call after it, are what the message does
  pub as_step : (said : Said) (after : CallState) → said ≡ (message_step s m.avps).said → after ≡ (message_step s m.avps).after → record { said = said; after = after } ≡ message_step s m.avps
  as_step said after e f = same_step (message_step s m.avps) said after e f

  pub as_hears : (said : Said) (after : CallState) → said ≡ (message_step s m.avps).said → after ≡ (message_step s m.avps).after → Hears s m (record { said = said; after = after })
  as_hears said after e f = subst (λ (x : Step). Hears s m x) (sym (as_step said after e f)) (message_hears s m)
