-- A message changes one call at most, and a call comes to be up by its ICRP alone.
use Rattle.std.proofs.Common.{◌≡◌, ◌≢◌, ℕ, ◌<◌, ◌≤◌, ◌==◌, Bool, true, false, cond, not, nat_lt, List, [], ◌∷◌, ◌++◌, filter, find, Option, None, Some, refl, sym, ap, subst, ◌∙◌, inl, inr, arith}
use Rattle.std.proofs.lemmas.Bool.{cases_lt, eqb-true, false≢true}
use Rattle.std.proofs.lemmas.Bool.Decides.{nat_tests}
use Rattle.bng_l2tp_wire.specs.Avps.{L2tpAvp}
use Rattle.bng_l2tp_wire.specs.Values.{message_type}
use Rattle.bng_l2tp_wire.specs.Judge.{is_type}
use Rattle.bng_l2tp_call.specs.declared.refusal.CallRefusal.{CallRefusal}
use Rattle.bng_l2tp_wire.specs.declared.message.TheConstants.{ICRP, CDN}
use Rattle.bng_lac.specs.declared.call.LacCall.{LacCall}
use Rattle.bng_lac.specs.Messages.{is_taken_by}
use Rattle.bng_lac.specs.Refusals.{call_refusal_of}
use Rattle.bng_lac.specs.Calls.{is_call, call_of, with_call, without_call}
use Rattle.bng_lac.specs.CallSteps.{passes, opens, ends, judged, call_step}
use Rattle.bng_lac.specs.Steps.{calls_after}
use Rattle.bng_lac.proofs.CallsKept.{call_keeps}

-- Other calls ----------------------------------------------------------------------------------------------------------------------------

some_none : (a : LacCall) → Some a ≡ None → ⊥
some_none a f = cc

module _ (p : LacCall → Bool) where
  found_in : (q : LacCall → Bool) → ((d : LacCall) → p d ≡ true → q d ≡ true) → (cs : List LacCall) → find p (filter q cs) ≡ find p cs
  found_in q h [] = refl
  found_in q h (d ∷ cs) = by (p d) (q d) refl refl (found_in q h cs)
    where
      by : (a b : Bool) → p d ≡ a → q d ≡ b → find p (filter q cs) ≡ find p cs → find p (filter q (d ∷ cs)) ≡ find p (d ∷ cs)
      by true true a b rest =
          ap (λ x. find p (cond x (d ∷ filter q cs) (filter q cs))) b
          ∙ ap (λ x. cond x (Some d) (find p (filter q cs))) a ∙ sym (ap (λ x. cond x (Some d) (find p cs)) a)
      by true false a b rest = absurd (false≢true (sym b ∙ h d a))
      by false true a b rest =
          ap (λ x. find p (cond x (d ∷ filter q cs) (filter q cs))) b
          ∙ ap (λ x. cond x (Some d) (find p (filter q cs))) a ∙ rest ∙ sym (ap (λ x. cond x (Some d) (find p cs)) a)
      by false false a b rest =
          ap (λ x. find p (cond x (d ∷ filter q cs) (filter q cs))) b ∙ rest ∙ sym (ap (λ x. cond x (Some d) (find p cs)) a)

  pub none_in : (q : LacCall → Bool) → ((d : LacCall) → p d ≡ true → q d ≡ false) → (cs : List LacCall) → find p (filter q cs) ≡ None
  none_in q h [] = refl
  none_in q h (d ∷ cs) = by (p d) (q d) refl refl (none_in q h cs)
    where
      by : (a b : Bool) → p d ≡ a → q d ≡ b → find p (filter q cs) ≡ None → find p (filter q (d ∷ cs)) ≡ None
      by true true a b rest = absurd (false≢true (sym (h d a) ∙ b))
      by true false a b rest = ap (λ x. find p (cond x (d ∷ filter q cs) (filter q cs))) b ∙ rest
      by false true a b rest =
          ap (λ x. find p (cond x (d ∷ filter q cs) (filter q cs))) b ∙ ap (λ x. cond x (Some d) (find p (filter q cs))) a ∙ rest
      by false false a b rest = ap (λ x. find p (cond x (d ∷ filter q cs) (filter q cs))) b ∙ rest

  at_front : (xs ys : List LacCall) → find p ys ≡ None → find p (xs ++ ys) ≡ find p xs
  at_front [] ys e = e
  at_front (x ∷ xs) ys e = ap (λ o. cond (p x) (Some x) o) (at_front xs ys e)

  pub at_back : (xs ys : List LacCall) → find p xs ≡ None → find p (xs ++ ys) ≡ find p ys
  at_back [] ys e = refl
  at_back (x ∷ xs) ys e = by (p x) refl (at_back xs ys)
    where
      by : (b : Bool) → p x ≡ b → (find p xs ≡ None → find p (xs ++ ys) ≡ find p ys) → find p (x ∷ xs ++ ys) ≡ find p ys
      by true b rest = absurd (some_none x (sym (ap (λ y. cond y (Some x) (find p xs)) b) ∙ e))
      by false b rest =
          ap (λ y. cond y (Some x) (find p (xs ++ ys))) b ∙ rest (sym (ap (λ y. cond y (Some x) (find p xs)) b) ∙ e)

-- the call of a session stays where another session's call changes or ends
module _ (n : ℕ) (c : LacCall) (differ : n ≢ c.session.0) where
  own : (d : LacCall) → is_call n d ≡ true → d.session.0 ≡ n
  own d e = eqb-true d.session.0 n e

  not_lower : (a b : ℕ) → b ≤ a → nat_lt a b ≡ false
  not_lower a b l = grind (arith, nat_tests)

  lower : (a b : ℕ) → a < b → nat_lt a b ≡ true
  lower a b l = grind (arith, nat_tests)

  other : (a m : ℕ) → a ≢ m → (m == a) ≡ false
  other a m e = grind (arith, nat_tests)

  head_is_other : (ys : List LacCall) → call_of n (c ∷ ys) ≡ call_of n ys
  head_is_other ys = ap (λ b. cond b (Some c) (call_of n ys)) (other n c.session.0 differ)

  pub with_other : (cs : List LacCall) → call_of n (with_call c cs) ≡ call_of n cs
  with_other cs =
      let below = filter (λ (d : LacCall). nat_lt d.session.0 c.session.0) cs in
      let above = filter (λ (d : LacCall). nat_lt c.session.0 d.session.0) cs in
      elim (cases_lt n c.session.0) [
        | inl lt ↦
            at_front (is_call n) below (c ∷ above) (head_is_other above ∙ none_in (is_call n) (λ d. nat_lt c.session.0 d.session.0) (λ d e. not_lower c.session.0 d.session.0 (omega (arith, own d e, lt))) cs)
            ∙ found_in (is_call n) (λ d. nat_lt d.session.0 c.session.0) (λ d e. lower d.session.0 c.session.0 (omega (arith, own d e, lt))) cs
        | inr ge ↦
            at_back (is_call n) below (c ∷ above) (none_in (is_call n) (λ d. nat_lt d.session.0 c.session.0) (λ d e. not_lower d.session.0 c.session.0 (omega (arith, own d e, ge))) cs)
            ∙ head_is_other above
            ∙ found_in (is_call n) (λ d. nat_lt c.session.0 d.session.0) (λ d e. lower c.session.0 d.session.0 (higher d (own d e) ge)) cs
      ]
    where
      higher : (d : LacCall) → d.session.0 ≡ n → c.session.0 ≤ n → c.session.0 < d.session.0
      higher d e ge = elim (cases_lt c.session.0 d.session.0) [
        | inl l ↦ l
        | inr g ↦ absurd (differ (omega (arith, e, ge, g)))
      ]

  pub without_other : (cs : List LacCall) → call_of n (without_call c.session.0 cs) ≡ call_of n cs
  without_other cs = found_in (is_call n) (λ d. not (is_call c.session.0 d)) (λ d e. ap not (apart d (own d e))) cs
    where
      apart : (d : LacCall) → d.session.0 ≡ n → is_call c.session.0 d ≡ false
      apart d e = ap (λ (k : ℕ). k == c.session.0) e ∙ other c.session.0 n (λ f. differ (sym f))

-- What brings a call up -------------------------------------------------------------------------------------------------------------------

eq_by : (t : ℕ) → is_type (Some t) ICRP ≡ true → t ≡ 11
eq_by t e = eqb-true t 11 e

waits_by : (c : LacCall) (peer type : Option ℕ) → is_type type ICRP ≡ true → is_taken_by (record c { peer = peer }) type ≡ true → (peer ≡ None) × (type ≡ Some ICRP)
waits_by c peer None a b = absurd (false≢true a)
waits_by c None (Some t) a b = (refl, ap (λ (n : ℕ). Some n) (eq_by t a))
waits_by c (Some p) (Some t) a b =
    let P : ℕ → Type 0 = λ n. is_taken_by (record c { peer = Some p }) (Some n) ≡ true in absurd (false≢true (subst P (eq_by t a) b))

module _ (secret : Option (List ℕ)) (c : LacCall) (avps : List L2tpAvp) where
  by_type : (icrp cdn : Bool) → is_type (message_type avps) ICRP ≡ icrp → is_taken_by c (message_type avps) ≡ true
      → (cond icrp (opens secret c avps) (cond cdn ends (passes c))).opened ≡ true → (c.peer ≡ None) × (message_type avps ≡ Some ICRP)
  by_type true cdn is taken up = waits_by c c.peer (message_type avps) is taken
  by_type false true is taken up = absurd (false≢true up)
  by_type false false is taken up = absurd (false≢true up)

  by_refusal : (cause : Option CallRefusal) → is_taken_by c (message_type avps) ≡ true → (judged secret c avps cause).opened ≡ true → (c.peer ≡ None) × (message_type avps ≡ Some ICRP)
  by_refusal None taken up = by_type (is_type (message_type avps) ICRP) (is_type (message_type avps) CDN) refl taken up
  by_refusal (Some cause) taken up = absurd (false≢true up)

  by_taken : (b : Bool) → is_taken_by c (message_type avps) ≡ b → (cond b (judged secret c avps (call_refusal_of secret avps)) (passes c)).opened ≡ true → (c.peer ≡ None) × (message_type avps ≡ Some ICRP)
  by_taken true is up = by_refusal (call_refusal_of secret avps) is up
  by_taken false is up = absurd (false≢true up)

  pub opens_waiting : (call_step secret c avps).opened ≡ true → (c.peer ≡ None) × (message_type avps ≡ Some ICRP)
  unfolding call_step
  opens_waiting up = by_taken (is_taken_by c (message_type avps)) refl up

  -- a message to one call leaves the others as they are
  module _ (calls : List LacCall) (n : ℕ) (differ : n ≢ c.session.0) where
    others_by : (after : Option LacCall) → (call_step secret c avps).after ≡ after → call_of n (calls_after c after calls) ≡ call_of n calls
    others_by None is = without_other n c differ calls
    others_by (Some a) is = with_other n a (λ e. differ (e ∙ call_keeps secret c avps a is)) calls

    pub others_stay : call_of n (calls_after c (call_step secret c avps).after calls) ≡ call_of n calls
    others_stay = others_by (call_step secret c avps).after refl
