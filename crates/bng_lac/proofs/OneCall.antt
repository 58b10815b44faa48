-- What a message does to one call, and to the calls of a tunnel.
use Rattle.std.proofs.Common.{◌≡◌, ◌≢◌, ℕ, ◌==◌, ◌&&◌, ◌||◌, ◌⊎◌, Bool, true, false, cond, not, nat_lt, List, [], ◌∷◌, filter, length, Option, None, Some, is_some, IsSome, option_and_then, refl, sym, ap, subst, ◌∙◌, inl, inr, arith}
use Rattle.std.proofs.lemmas.Bool.{eqb-true, eq-eqb, le-ltb, or_parts, not-false, false≢true}
use Rattle.std.proofs.lemmas.Option.{same_Some}
use Rattle.byteorder.specs.Endian.{big_from}
use Rattle.bng_l2tp_wire.specs.Avps.{L2tpAvp}
use Rattle.bng_l2tp_wire.specs.Values.{message_type, value_of, number_in, has_unreadable, assigned_session}
use Rattle.bng_l2tp_wire.specs.Judge.{is_type, is_wrong, has_unknown}
use Rattle.bng_l2tp_call.specs.declared.refusal.CallRefusal.{CallRefusal}
use Rattle.bng_l2tp_call.specs.declared.refusal.CallRefusal.TheVariants.{UnknownAvp, WrongAvp}
use Rattle.bng_l2tp_wire.specs.declared.message.TheConstants.{ICRP, CDN}
use Rattle.bng_l2tp_wire.specs.declared.kind.TheConstants.{ASSIGNED_SESSION_ID}
use Rattle.bng_lac.specs.declared.call.LacCall.{LacCall}
use Rattle.bng_lac.specs.Messages.{is_taken_by, lacks_needed}
use Rattle.bng_lac.specs.Refusals.{has_wrong_avp, call_refusal_of}
use Rattle.bng_lac.specs.Calls.{is_call, call_of, with_call, without_call}
use Rattle.bng_lac.specs.CallSteps.{CallStep, passes, opens, ends, judged, call_step}
use Rattle.bng_lac.specs.Steps.{calls_after}
use Rattle.bng_lac.specs.Sound.{has_call, peer_of, is_up}
use Rattle.bng_lac.proofs.Laws.{none_in, at_back, with_other, without_other, opens_waiting}

-- Calls by their session -----------------------------------------------------------------------------------------------------------------

pub found_is : (n : ℕ) (cs : List LacCall) (c : LacCall) → call_of n cs ≡ Some c → c.session.0 ≡ n
found_is n [] c e = absurd cc
found_is n (d ∷ ds) c e =
    by (is_call n d) refl e (found_is n ds c)
  where
    by : (b : Bool) → is_call n d ≡ b → cond b (Some d) (call_of n ds) ≡ Some c → (call_of n ds ≡ Some c → c.session.0 ≡ n) → c.session.0 ≡ n
    by true q e rest = ap (λ (x : LacCall). x.session.0) (sym (same_Some d c e)) ∙ eqb-true d.session.0 n q
    by false q e rest = rest e

pub with_own : (n : ℕ) (c : LacCall) (cs : List LacCall) → c.session.0 ≡ n → call_of n (with_call c cs) ≡ Some c
with_own n c cs e =
    let below = filter (λ (d : LacCall). nat_lt d.session.0 c.session.0) cs in
    let above = filter (λ (d : LacCall). nat_lt c.session.0 d.session.0) cs in
    at_back (is_call n) below (c ∷ above)
    (none_in (is_call n) (λ d. nat_lt d.session.0 c.session.0) (λ d q. le-ltb d.session.0 c.session.0 (omega (arith, e, eqb-true d.session.0 n q))) cs)
    ∙ ap (λ b. cond b (Some c) (call_of n above)) (eq-eqb c.session.0 n e)

pub without_own : (n : ℕ) (cs : List LacCall) → call_of n (without_call n cs) ≡ None
without_own n cs = none_in (is_call n) (λ d. not (is_call n d)) (λ d q. ap not q) cs

-- What a message does to one call --------------------------------------------------------------------------------------------------------

-- it leaves the call as it is
pub record IsLeft (c : LacCall) (step : CallStep) : Type 0 where
  pub after : step.after ≡ Some c
  pub opened : step.opened ≡ false
  pub ended : step.ended ≡ false

-- it brings it up
pub record IsBrought (secret : Option (List ℕ)) (c : LacCall) (avps : List L2tpAvp) (step : CallStep) : Type 0 where
  pub after : step.after ≡ Some (record c { peer = assigned_session secret avps })
  pub there : IsSome (assigned_session secret avps)
  pub opened : step.opened ≡ true
  pub ended : step.ended ≡ false

-- it ends it
pub record IsOver (step : CallStep) : Type 0 where
  pub after : step.after ≡ None
  pub opened : step.opened ≡ false
  pub ended : step.ended ≡ true

abbrev pub Does : Option (List ℕ) → LacCall → List L2tpAvp → CallStep → Type 0
Does secret c avps step = IsLeft c step ⊎ (IsBrought secret c avps step ⊎ IsOver step)

some_if : (n : ℕ) (b : Bool) → b ≡ true → IsSome {T = ℕ} (cond b (Some n) None)
some_if n true e = refl
some_if n false e = absurd (false≢true e)

number_there : (value : Option (List ℕ)) → is_wrong ASSIGNED_SESSION_ID value ≡ false → IsSome (number_in value)
number_there None e = absurd (false≢true (sym e))
number_there (Some value) e = some_if (big_from 0 2 value) (length value == 2) (not-false (length value == 2) e)

type_is : (type : Option ℕ) (wanted : ℕ) → is_type type wanted ≡ true → type ≡ Some wanted
type_is None wanted e = absurd (false≢true e)
type_is (Some type) wanted e = ap (λ (n : ℕ). Some n) (eqb-true type wanted e)

-- an ICRP that is not refused has the server's session
module _ (secret : Option (List ℕ)) (avps : List L2tpAvp) where
  not_wrong : call_refusal_of secret avps ≡ None → has_wrong_avp secret (message_type avps) avps ≡ false
  unfolding call_refusal_of
  not_wrong e =
      by (has_unknown avps) (has_wrong_avp secret (message_type avps) avps) e
    where
      by : (a b : Bool) → cond a (Some UnknownAvp) (cond b (Some WrongAvp) None) ≡ None → b ≡ false
      by true b e = absurd cc
      by false true e = absurd cc
      by false false e = refl

  has_session : is_type (message_type avps) ICRP ≡ true → has_wrong_avp secret (message_type avps) avps ≡ false → IsSome (assigned_session secret avps)
  has_session e w =
      let all : (lacks_needed secret (Some ICRP) avps || has_unreadable secret avps) ≡ false = subst (λ (x : Option ℕ). has_wrong_avp secret x avps ≡ false) (type_is (message_type avps) ICRP e) w in
      let needed : ((is_wrong ASSIGNED_SESSION_ID (value_of secret ASSIGNED_SESSION_ID avps) || false) || false) ≡ false = (or_parts (lacks_needed secret (Some ICRP) avps) (has_unreadable secret avps) all).0 in
      let session : (is_wrong ASSIGNED_SESSION_ID (value_of secret ASSIGNED_SESSION_ID avps) || false) ≡ false = (or_parts (is_wrong ASSIGNED_SESSION_ID (value_of secret ASSIGNED_SESSION_ID avps) || false) false needed).0 in
      number_there (value_of secret ASSIGNED_SESSION_ID avps) (or_parts (is_wrong ASSIGNED_SESSION_ID (value_of secret ASSIGNED_SESSION_ID avps)) false session).0

module _ (secret : Option (List ℕ)) (c : LacCall) (avps : List L2tpAvp) where
  by_type : has_wrong_avp secret (message_type avps) avps ≡ false → (icrp cdn : Bool) → is_type (message_type avps) ICRP ≡ icrp
      → Does secret c avps (cond icrp (opens secret c avps) (cond cdn ends (passes c)))
  by_type w true cdn q = inr (inl (record { after = refl; there = has_session secret avps q w; opened = refl; ended = refl }))
  by_type w false true q = inr (inr (record { after = refl; opened = refl; ended = refl }))
  by_type w false false q = inl (record { after = refl; opened = refl; ended = refl })

  by_refusal : (cause : Option CallRefusal) → call_refusal_of secret avps ≡ cause → Does secret c avps (judged secret c avps cause)
  by_refusal None q = by_type (not_wrong secret avps q) (is_type (message_type avps) ICRP) (is_type (message_type avps) CDN) refl
  by_refusal (Some cause) q = inr (inr (record { after = refl; opened = refl; ended = refl }))

  by_taken : (taken : Bool) → Does secret c avps (cond taken (judged secret c avps (call_refusal_of secret avps)) (passes c))
  by_taken true = by_refusal (call_refusal_of secret avps) refl
  by_taken false = inl (record { after = refl; opened = refl; ended = refl })

  pub does : Does secret c avps (call_step secret c avps)
  unfolding call_step
  does = by_taken (is_taken_by c (message_type avps))

-- What it does to the calls --------------------------------------------------------------------------------------------------------------

-- the calls of a tunnel before and after a message of the call of a session, and what is told of it
pub record ChangesAt (n : ℕ) (before after : List LacCall) (up over : Bool) : Type 0 where
  pub others : (k : ℕ) → k ≢ n → call_of k after ≡ call_of k before
  pub opened : up ≡ (not (is_up n before) && is_up n after)
  pub ended : over ≡ (has_call n before && not (has_call n after))
  pub kept : up ≡ false → over ≡ false → call_of n after ≡ call_of n before

not_and : (b : Bool) → false ≡ (not b && b)
not_and true = refl
not_and false = refl

and_not : (b : Bool) → false ≡ (b && not b)
and_not true = refl
and_not false = refl

and_false : (b : Bool) → false ≡ (b && false)
and_false true = refl
and_false false = refl

-- what is told is by what stands at the session alone
told_opened : (n : ℕ) (before after : List LacCall) (x y : Option LacCall) → call_of n before ≡ x → call_of n after ≡ y
    → (not (is_up n before) && is_up n after) ≡ (not (is_some (option_and_then (λ (c : LacCall). c.peer) x)) && is_some (option_and_then (λ (c : LacCall). c.peer) y))
told_opened n before after x y e f =
    ap (λ (o : Option LacCall). not (is_some (option_and_then (λ (c : LacCall). c.peer) o)) && is_up n after) e
    ∙ ap (λ (o : Option LacCall). not (is_some (option_and_then (λ (c : LacCall). c.peer) x)) && is_some (option_and_then (λ (c : LacCall). c.peer) o)) f

told_ended : (n : ℕ) (before after : List LacCall) (x y : Option LacCall) → call_of n before ≡ x → call_of n after ≡ y
    → (has_call n before && not (has_call n after)) ≡ (is_some x && not (is_some y))
told_ended n before after x y e f =
    ap (λ (o : Option LacCall). is_some o && not (has_call n after)) e ∙ ap (λ (o : Option LacCall). is_some x && not (is_some o)) f

-- nothing changes
pub stays_at : (n : ℕ) (before after : List LacCall) → after ≡ before → ChangesAt n before after false false
stays_at n before after e =
    let at = ap (call_of n) e in
    record {
      others = λ k differ. ap (call_of k) e;
      opened = not_and (is_up n before) ∙ sym (told_opened n before after (call_of n before) (call_of n before) refl at);
      ended = and_not (has_call n before) ∙ sym (told_ended n before after (call_of n before) (call_of n before) refl at);
      kept = λ a b. at;
    }

brought : (peer session : Option ℕ) → peer ≡ None → IsSome session → true ≡ (not (is_some peer) && is_some session)
brought peer session none some = sym (ap (λ (o : Option ℕ). not (is_some o) && is_some session) none ∙ some)

module _ (secret : Option (List ℕ)) (c : LacCall) (avps : List L2tpAvp) (n : ℕ) (calls : List LacCall) (is : call_of n calls ≡ Some c) where
  own : c.session.0 ≡ n
  own = found_is n calls c is

  others_at : (a : LacCall) → a.session.0 ≡ n → (k : ℕ) → k ≢ n → call_of k (with_call a calls) ≡ call_of k calls
  others_at a e k differ = with_other k a (λ f. differ (f ∙ e)) calls

  changes_by : (step : CallStep) → (step.opened ≡ true → c.peer ≡ None) → Does secret c avps step → ChangesAt n calls (calls_after c step.after calls) step.opened step.ended
  changes_by step waits (inl leaves) =
      let now = ap (λ (o : Option LacCall). calls_after c o calls) leaves.after in
      let at = ap (call_of n) now ∙ with_own n c calls own in
      record {
        others = λ k differ. ap (call_of k) now ∙ others_at c own k differ;
        opened = leaves.opened ∙ not_and (is_some c.peer) ∙ sym (told_opened n calls (calls_after c step.after calls) (Some c) (Some c) is at);
        ended = leaves.ended ∙ sym (told_ended n calls (calls_after c step.after calls) (Some c) (Some c) is at);
        kept = λ a b. at ∙ sym is;
      }
  changes_by step waits (inr (inl brings)) =
      let up = record c { peer = assigned_session secret avps } in
      let now = ap (λ (o : Option LacCall). calls_after c o calls) brings.after in
      let at = ap (call_of n) now ∙ with_own n up calls own in
      record {
        others = λ k differ. ap (call_of k) now ∙ others_at up own k differ;
        opened = brings.opened ∙ brought c.peer (assigned_session secret avps) (waits brings.opened) brings.there
            ∙ sym (told_opened n calls (calls_after c step.after calls) (Some c) (Some up) is at);
        ended = brings.ended ∙ sym (told_ended n calls (calls_after c step.after calls) (Some c) (Some up) is at);
        kept = λ a b. absurd (false≢true (sym a ∙ brings.opened));
      }
  changes_by step waits (inr (inr over)) =
      let now = ap (λ (o : Option LacCall). calls_after c o calls) over.after in
      let gone : call_of n (without_call c.session.0 calls) ≡ None = ap (λ (k : ℕ). call_of n (without_call k calls)) own ∙ without_own n calls in
      let at = ap (call_of n) now ∙ gone in
      record {
        others = λ k differ. ap (call_of k) now ∙ without_other k c (λ f. differ (f ∙ own)) calls;
        opened = over.opened ∙ and_false (not (is_some c.peer)) ∙ sym (told_opened n calls (calls_after c step.after calls) (Some c) None is at);
        ended = over.ended ∙ sym (told_ended n calls (calls_after c step.after calls) (Some c) None is at);
        kept = λ a b. absurd (false≢true (sym b ∙ over.ended));
      }

  pub call_changes : ChangesAt n calls (calls_after c (call_step secret c avps).after calls) (call_step secret c avps).opened (call_step secret c avps).ended
  call_changes = changes_by (call_step secret c avps) (λ up. (opens_waiting secret c avps up).0) (does secret c avps)

  -- where the call comes to be up, it is of the session that the message tells
  pub call_peer : (call_step secret c avps).opened ≡ true → peer_of n (calls_after c (call_step secret c avps).after calls) ≡ assigned_session secret avps
  call_peer up =
      by (call_step secret c avps) up (does secret c avps)
    where
      by : (step : CallStep) → step.opened ≡ true → Does secret c avps step → peer_of n (calls_after c step.after calls) ≡ assigned_session secret avps
      by step up (inl leaves) = absurd (false≢true (sym leaves.opened ∙ up))
      by step up (inr (inl brings)) =
          ap (λ (o : Option LacCall). peer_of n (calls_after c o calls)) brings.after
          ∙ ap (λ (o : Option LacCall). option_and_then (λ (d : LacCall). d.peer) o) (with_own n (record c { peer = assigned_session secret avps }) calls own)
      by step up (inr (inr over)) = absurd (false≢true (sym over.opened ∙ up))
