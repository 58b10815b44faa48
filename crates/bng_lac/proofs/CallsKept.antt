-- A call keeps its session.
use Rattle.std.proofs.Common.{◌≡◌, ℕ, Bool, true, false, cond, Option, None, Some, List, sym, ap}
use Rattle.bng_l2tp_wire.specs.Avps.{L2tpAvp}
use Rattle.bng_l2tp_wire.specs.Values.{message_type, assigned_session}
use Rattle.bng_l2tp_wire.specs.Judge.{is_type}
use Rattle.bng_l2tp_call.specs.declared.refusal.CallRefusal.{CallRefusal}
use Rattle.bng_l2tp_wire.specs.declared.message.TheConstants.{ICRP, CDN}
use Rattle.bng_lac.specs.declared.call.LacCall.{LacCall}
use Rattle.bng_lac.specs.Messages.{is_taken_by}
use Rattle.bng_lac.specs.Refusals.{call_refusal_of}
use Rattle.bng_lac.specs.CallSteps.{passes, opens, ends, judged, call_step}

some_same : (a b : LacCall) → Some a ≡ Some b → a ≡ b
some_same a b e = cc

none_some : (a : LacCall) → None ≡ Some a → ⊥
none_some a e = cc

module _ (secret : Option (List ℕ)) (c : LacCall) (avps : List L2tpAvp) (a : LacCall) where
  by_type : (icrp cdn : Bool) → (cond icrp (opens secret c avps) (cond cdn ends (passes c))).after ≡ Some a → a.session.0 ≡ c.session.0
  by_type true cdn e = ap (λ (d : LacCall). d.session.0) (sym (some_same (record c { peer = assigned_session secret avps }) a e))
  by_type false true e = absurd (none_some a e)
  by_type false false e = ap (λ (d : LacCall). d.session.0) (sym (some_same c a e))

  by_refusal : (cause : Option CallRefusal) → (judged secret c avps cause).after ≡ Some a → a.session.0 ≡ c.session.0
  by_refusal None e = by_type (is_type (message_type avps) ICRP) (is_type (message_type avps) CDN) e
  by_refusal (Some cause) e = absurd (none_some a e)

  by_taken : (taken : Bool) → (cond taken (judged secret c avps (call_refusal_of secret avps)) (passes c)).after ≡ Some a → a.session.0 ≡ c.session.0
  by_taken true e = by_refusal (call_refusal_of secret avps) e
  by_taken false e = ap (λ (d : LacCall). d.session.0) (sym (some_same c a e))

  pub call_keeps : (call_step secret c avps).after ≡ Some a → a.session.0 ≡ c.session.0
  unfolding call_step
  call_keeps e = by_taken (is_taken_by c (message_type avps)) e
