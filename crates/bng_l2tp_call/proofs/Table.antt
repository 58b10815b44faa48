-- One message has one outcome.
use Rattle.std.proofs.Common.{◌≡◌, ℕ, Bool, true, false, ◌&&◌, ◌||◌, cond, inl, inr, Option, None, Some, List, [], ◌∷◌, refl, sym, ap, subst, ◌∙◌}
use Rattle.std.specs.List.{list_any}
use Rattle.std.proofs.lemmas.Bool.{or_cases, and_parts}
use Rattle.bng_l2tp_wire.specs.Messages.{ControlMessage}
use Rattle.bng_l2tp_wire.proofs.Judging.{type_is}
use Rattle.bng_l2tp_call.specs.declared.phase.CallPhase.{CallPhase}
use Rattle.bng_l2tp_call.specs.declared.phase.CallPhase.TheVariants.{Idle, WaitConnect, Established, Ended}
use Rattle.bng_l2tp_call.specs.declared.refusal.CallRefusal.{CallRefusal}
use Rattle.bng_l2tp_wire.specs.declared.message.TheConstants.{ICRQ, ICCN, CDN, WEN, SLI}
use Rattle.bng_l2tp_wire.specs.Values.{message_type}
use Rattle.bng_l2tp_wire.specs.Judge.{is_type}
use Rattle.bng_l2tp_call.specs.Messages.{is_taken, same_phase}
use Rattle.bng_l2tp_call.specs.CallState.{CallState}
use Rattle.bng_l2tp_call.specs.Refusals.{refusal_of, IsRefused}
use Rattle.bng_l2tp_call.specs.Steps.{Step, nothing, refuses, IsAccepted, Hears, passed, refused, requested, connected, disconnected, error_notified, link_set}
use Rattle.bng_l2tp_call.specs.Cases.{accepted, judged, message_step}

-- the phases and the messages that are taken in them
pub data Takes : CallPhase → Option ℕ → Type 0 where
  icrq_idle : Takes Idle (Some ICRQ)
  iccn_waiting : Takes WaitConnect (Some ICCN)
  cdn_waiting : Takes WaitConnect (Some CDN)
  cdn_established : Takes Established (Some CDN)
  wen_waiting : Takes WaitConnect (Some WEN)
  wen_established : Takes Established (Some WEN)
  sli_waiting : Takes WaitConnect (Some SLI)
  sli_established : Takes Established (Some SLI)

-- a row of the table, and the rows after it
by_row : (p : CallPhase) (type : Option ℕ) (wanted : ℕ) (phases : List CallPhase) (rest : Bool) → (list_any (same_phase p) phases ≡ true → Takes p (Some wanted)) → (rest ≡ true → Takes p type)
    → (is_type type wanted && list_any (same_phase p) phases || rest) ≡ true → Takes p type
by_row p type wanted phases rest here later e =
    elim (or_cases (is_type type wanted && list_any (same_phase p) phases) rest e) [
      | inl row ↦ (let both = and_parts (is_type type wanted) (list_any (same_phase p) phases) row in
          subst (λ (x : Option ℕ). Takes p x) (sym (type_is type wanted both.0)) (here both.1))
      | inr rows ↦ later rows
    ]

at_idle : (p : CallPhase) → list_any (same_phase p) (Idle ∷ []) ≡ true → Takes p (Some ICRQ)
at_idle Idle e = icrq_idle
at_idle WaitConnect e = absurd cc
at_idle Established e = absurd cc
at_idle Ended e = absurd cc

at_waiting : (p : CallPhase) → list_any (same_phase p) (WaitConnect ∷ []) ≡ true → Takes p (Some ICCN)
at_waiting Idle e = absurd cc
at_waiting WaitConnect e = iccn_waiting
at_waiting Established e = absurd cc
at_waiting Ended e = absurd cc

at_standing : (type : ℕ) → Takes WaitConnect (Some type) → Takes Established (Some type) → (p : CallPhase) → list_any (same_phase p) (WaitConnect ∷ Established ∷ []) ≡ true → Takes p (Some type)
at_standing type waiting established Idle e = absurd cc
at_standing type waiting established WaitConnect e = waiting
at_standing type waiting established Established e = established
at_standing type waiting established Ended e = absurd cc

pub takes : (p : CallPhase) (type : Option ℕ) → is_taken p type ≡ true → Takes p type
takes p type e =
    by_row p type ICRQ (Idle ∷ []) _ (at_idle p)
    (by_row p type ICCN (WaitConnect ∷ []) _ (at_waiting p)
    (by_row p type CDN (WaitConnect ∷ Established ∷ []) _ (at_standing CDN cdn_waiting cdn_established p)
    (by_row p type WEN (WaitConnect ∷ Established ∷ []) _ (at_standing WEN wen_waiting wen_established p)
    (by_row p type SLI (WaitConnect ∷ Established ∷ []) false (at_standing SLI sli_waiting sli_established p) (λ no. absurd cc))))) e

module _ (s : CallState) (m : ControlMessage) where
  -- a message that is accepted does what its row says
  accepted_hears : (p : CallPhase) (type : Option ℕ) → is_taken s.phase (message_type m.avps) ≡ true → refusal_of s m.avps ≡ None → message_type m.avps ≡ type → Takes p type → Hears s m (accepted s type m.avps)
  accepted_hears p type e q t icrq_idle = requested (record { taken = e; type_is = t; right = q })
  accepted_hears p type e q t iccn_waiting = connected (record { taken = e; type_is = t; right = q })
  accepted_hears p type e q t cdn_waiting = disconnected (record { taken = e; type_is = t; right = q })
  accepted_hears p type e q t cdn_established = disconnected (record { taken = e; type_is = t; right = q })
  accepted_hears p type e q t wen_waiting = error_notified (record { taken = e; type_is = t; right = q })
  accepted_hears p type e q t wen_established = error_notified (record { taken = e; type_is = t; right = q })
  accepted_hears p type e q t sli_waiting = link_set (record { taken = e; type_is = t; right = q })
  accepted_hears p type e q t sli_established = link_set (record { taken = e; type_is = t; right = q })

  judged_hears : is_taken s.phase (message_type m.avps) ≡ true → (r : Option CallRefusal) → refusal_of s m.avps ≡ r → Hears s m (judged s (message_type m.avps) m.avps r)
  judged_hears e None q = accepted_hears s.phase (message_type m.avps) e q refl (takes s.phase (message_type m.avps) e)
  judged_hears e (Some cause) q = refused (record { taken = e; first = q })

  -- each message has an outcome
  pub message_hears : Hears s m (message_step s m.avps)
  unfolding message_step
  message_hears =
      by (is_taken s.phase (message_type m.avps)) refl
    where
      by : (b : Bool) → is_taken s.phase (message_type m.avps) ≡ b → Hears s m (cond b (judged s (message_type m.avps) m.avps (refusal_of s m.avps)) (nothing s))
      by true e = judged_hears e (refusal_of s m.avps) refl
      by false e = passed e

  taken_step : (r : Option CallRefusal) → is_taken s.phase (message_type m.avps) ≡ true → refusal_of s m.avps ≡ r → message_step s m.avps ≡ judged s (message_type m.avps) m.avps r
  unfolding message_step
  taken_step r e q =
      ap (λ (b : Bool). cond b (judged s (message_type m.avps) m.avps (refusal_of s m.avps)) (nothing s)) e ∙ ap (judged s (message_type m.avps) m.avps) q

  accepted_step : (type : ℕ) → IsAccepted s m type → message_step s m.avps ≡ accepted s (Some type) m.avps
  accepted_step type a = taken_step None a.taken a.right ∙ ap (λ (t : Option ℕ). accepted s t m.avps) a.type_is

  pub refused_step : (cause : CallRefusal) → IsRefused s m cause → message_step s m.avps ≡ refuses s m.avps cause
  refused_step cause r = taken_step (Some cause) r.taken r.first

  -- and only this one
  pub hears_is : {step : Step} → Hears s m step → step ≡ message_step s m.avps
  unfolding message_step
  hears_is (passed e) = sym (ap (λ (b : Bool). cond b (judged s (message_type m.avps) m.avps (refusal_of s m.avps)) (nothing s)) e)
  hears_is (refused {cause} r) = sym (refused_step cause r)
  hears_is (requested a) = sym (accepted_step ICRQ a)
  hears_is (connected a) = sym (accepted_step ICCN a)
  hears_is (disconnected a) = sym (accepted_step CDN a)
  hears_is (error_notified a) = sym (accepted_step WEN a)
  hears_is (link_set a) = sym (accepted_step SLI a)

  pub one_outcome : (a b : Step) → Hears s m a → Hears s m b → a ≡ b
  one_outcome a b first second = hears_is first ∙ sym (hears_is second)
