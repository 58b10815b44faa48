-- From one state and by one packet or verdict authentication goes on in one way.
use Rattle.std.proofs.Common.{◌≡◌, ◌≤◌, ℕ, Bool, true, false, List, Option, Some, None, length, refl, sym, ap, subst, ◌∙◌, arith}
use Rattle.std.specs.Prelude.{IsSome}
use Rattle.bng_auth.specs.declared.credentials.Credentials.{Credentials}
use Rattle.bng_auth.specs.declared.credentials.Proof.{Proof}
use Rattle.bng_auth.specs.declared.credentials.Proof.TheVariants as proof
use Rattle.bng_auth.specs.declared.step.AuthStep.{AuthStep}
use Rattle.bng_auth.specs.declared.step.AuthStep.TheVariants.{Ask, Again, Refuse, Ignore}
use Rattle.bng_auth.specs.Questions.{PapQuestion, ChapQuestion, Finding, IsPassword, IsProof, IsNamed, PapTakes, ChapTakes}
use Rattle.bng_auth.specs.Replying.{Said as Reply, reply_of}
use Rattle.bng_auth.specs.Requests.{IsPapRequest, IsResponse}
use Rattle.bng_base.specs.declared.settings.AuthKind.TheVariants as kind
use Rattle.bng_base.specs.PppGrammar.{ControlPacket}
use Rattle.bng_ppp.specs.declared.authentication.Authentication.{Authentication}
use Rattle.bng_ppp.specs.declared.authentication.Authentication.TheVariants as auth
use Rattle.bng_ppp.specs.Authentication.{AuthTakes, AuthSettles}
use Rattle.bng_ppp.specs.Claims.{Claim, Shown, password, response, shown_of, claim_of}

-- what is to be done at a packet, without where it lies in memory
pub data Seen : Type 0 where
  asks : Claim → Seen
  repeats : Reply → Seen
  refuses : Seen
  ignores : Seen

abbrev pub seen_of : AuthStep → Seen
seen_of (Ask c) = asks (claim_of c)
seen_of (Again r) = repeats (reply_of r)
seen_of Refuse = refuses
seen_of Ignore = ignores

none_some : {X : Type 0} (o : Option X) → o ≡ None → IsSome o → ⊥
none_some None e h = absurd cc
none_some (Some x) e h = absurd cc

shown_password : (s : Proof) (octets : List ℕ) → IsPassword s octets → shown_of s ≡ password octets
shown_password (proof.Pap p) octets e = ap password e
shown_password (proof.Chap id challenge value) octets h = absurd h

shown_response : (s : Proof) (id : ℕ) (challenge value : List ℕ) → IsProof s id challenge value → shown_of s ≡ response id challenge value
shown_response (proof.Pap p) id challenge value h = absurd h
shown_response (proof.Chap i c v) id challenge value h = let e = h.0 in let f = h.1 in let g = h.2 in cc

claim : List ℕ → Shown → Claim
claim name shown = record { name = name; shown = shown }

claims_equal : (a b : List ℕ) (s t : Shown) → a ≡ b → s ≡ t → claim a s ≡ claim b t
claims_equal a b s t e f = cc

-- two claims with one name and one proof
claim_one : (c d : Credentials) → c.name.items ≡ d.name.items → shown_of c.proof ≡ shown_of d.proof → claim_of c ≡ claim_of d
unfolding claim
claim_one c d e f = claims_equal c.name.items d.name.items (shown_of c.proof) (shown_of d.proof) e f

-- PAP -------------------------------------------------------------------------------------------------------------------

module _ (p : ControlPacket) (old : PapQuestion) where
  names : (a b c d : List ℕ) → IsPapRequest p a b → IsPapRequest p c d → (a ≡ c) × (b ≡ d)
  names a b c d x y = (x.peer ∙ sym y.peer, x.secret ∙ sym y.secret)

  unasked : old ≡ record { asked = None; verdict = None } → (old.asked ≡ None) × (old.verdict ≡ None)
  unasked e = (ap (λ (q : PapQuestion). q.asked) e, ap (λ (q : PapQuestion). q.verdict) e)

  no_verdict : (v : Finding) → old.verdict ≡ None → old.verdict ≡ Some v → ⊥
  no_verdict v e f = cc

  named : (a b c d : List ℕ) → IsPapRequest p a b → IsNamed a → length b ≤ 128 → IsPapRequest p c d → (IsNamed c × (length d ≤ 128) → ⊥) → ⊥
  named a b c d x name short y refused =
      let same = names a b c d x y in
      refused (subst IsNamed same.0 name, omega (arith, short, ap length same.1))

  abbrev pap_reply : Finding → Reply
  pap_reply f = record { kind = kind.Pap; yes = f.yes; id = p.id; text = f.text }

  pub pap_one : (s t : AuthStep) (a b : PapQuestion) → PapTakes old p s a → PapTakes old p t b → (seen_of s ≡ seen_of t) × (a ≡ b)
  pap_one (Ask c) (Ask d) a b (is, new, (n, w, req, name, short, cn, cp)) (is', new', (n', w', req', name', short', dn, dp)) =
      let same = names n w n' w' req req' in
      let shown = shown_password c.proof w cp ∙ ap password same.1 ∙ sym (shown_password d.proof w' dp) in
      (ap asks (claim_one c d (cn ∙ same.0 ∙ sym dn) shown), new ∙ sym new')
  pap_one (Ask c) (Again r) a b (is, new, what) (new', req', (v, found, reply)) = absurd (no_verdict v (unasked is).1 found)
  pap_one (Ask c) Refuse a b (is, new, (n, w, req, name, short, cn, cp)) (is', new', (n', w', req', refused)) = absurd (named n w n' w' req name short req' refused)
  pap_one (Ask c) Ignore a b (is, new, (n, w, req, name, short, cn, cp)) (new', open_still) = absurd (none_some old.asked (unasked is).0 (open_still n w req).1)
  pap_one (Again r) (Ask d) a b (new, req, (v, found, reply)) (is', new', what) = absurd (no_verdict v (unasked is').1 found)
  pap_one (Again r) (Again q) a b (new, req, (v, found, reply)) (new', req', (v', found', reply')) =
      let same : v ≡ v' = cc in
      (ap repeats (reply ∙ ap pap_reply same ∙ sym reply'), new ∙ sym new')
  pap_one (Again r) Refuse a b (new, req, (v, found, reply)) (is', new', what) = absurd (no_verdict v (unasked is').1 found)
  pap_one (Again r) Ignore a b (new, (n, w, req), (v, found, reply)) (new', open_still) = absurd (no_verdict v (open_still n w req).0 found)
  pap_one Refuse (Ask d) a b (is, new, (n, w, req, refused)) (is', new', (n', w', req', name, short, dn, dp)) = absurd (named n' w' n w req' name short req refused)
  pap_one Refuse (Again q) a b (is, new, what) (new', req', (v, found, reply)) = absurd (no_verdict v (unasked is).1 found)
  pap_one Refuse Refuse a b (is, new, what) (is', new', what') = (refl, new ∙ sym new')
  pap_one Refuse Ignore a b (is, new, (n, w, req, refused)) (new', open_still) = absurd (none_some old.asked (unasked is).0 (open_still n w req).1)
  pap_one Ignore (Ask d) a b (new, open_still) (is', new', (n, w, req, name, short, dn, dp)) = absurd (none_some old.asked (unasked is').0 (open_still n w req).1)
  pap_one Ignore (Again q) a b (new, open_still) (new', (n, w, req), (v, found, reply)) = absurd (no_verdict v (open_still n w req).0 found)
  pap_one Ignore Refuse a b (new, open_still) (is', new', (n, w, req, refused)) = absurd (none_some old.asked (unasked is').0 (open_still n w req).1)
  pap_one Ignore Ignore a b (new, open_still) (new', open_still') = (refl, new ∙ sym new')

-- CHAP ------------------------------------------------------------------------------------------------------------------

module _ (p : ControlPacket) (old : ChapQuestion) where
  values : (a b c d : List ℕ) → IsResponse old.id p a b → IsResponse old.id p c d → (a ≡ c) × (b ≡ d)
  values a b c d x y = (x.octets ∙ sym y.octets, x.peer ∙ sym y.peer)

  found_none : (v : Finding) → old.verdict ≡ None → old.verdict ≡ Some v → ⊥
  found_none v e f = cc

  asked_not : old.asked ≡ false → old.asked ≡ true → ⊥
  asked_not e f = cc

  named_too : (a b c d : List ℕ) → IsResponse old.id p a b → IsNamed b → IsResponse old.id p c d → (IsNamed d → ⊥) → ⊥
  named_too a b c d x name y refused = refused (subst IsNamed (values a b c d x y).1 name)

  abbrev chap_reply : Finding → Reply
  chap_reply f = record { kind = kind.Chap; yes = f.yes; id = p.id; text = f.text }

  pub chap_one : (s t : AuthStep) (a b : ChapQuestion) → ChapTakes old p s a → ChapTakes old p t b → (seen_of s ≡ seen_of t) × (a ≡ b)
  chap_one (Ask c) (Ask d) a b (fresh, none, new, (v, n, req, name, cn, cp)) (fresh', none', new', (v', n', req', name', dn, dp)) =
      let same = values v n v' n' req req' in
      let shown = shown_response c.proof old.id old.challenge v cp ∙ ap (response old.id old.challenge) same.0 ∙ sym (shown_response d.proof old.id old.challenge v' dp) in
      (ap asks (claim_one c d (cn ∙ same.1 ∙ sym dn) shown), new ∙ sym new')
  chap_one (Ask c) (Again r) a b (fresh, none, new, what) (new', req', (v, found, reply)) = absurd (found_none v none found)
  chap_one (Ask c) Refuse a b (fresh, none, new, (v, n, req, name, cn, cp)) (fresh', none', new', (v', n', req', refused)) = absurd (named_too v n v' n' req name req' refused)
  chap_one (Ask c) Ignore a b (fresh, none, new, (v, n, req, name, cn, cp)) (new', open_still) = absurd (asked_not fresh (open_still v n req).1)
  chap_one (Again r) (Ask d) a b (new, req, (v, found, reply)) (fresh', none', new', what) = absurd (found_none v none' found)
  chap_one (Again r) (Again q) a b (new, req, (v, found, reply)) (new', req', (v', found', reply')) =
      let same : v ≡ v' = cc in
      (ap repeats (reply ∙ ap chap_reply same ∙ sym reply'), new ∙ sym new')
  chap_one (Again r) Refuse a b (new, req, (v, found, reply)) (fresh', none', new', what) = absurd (found_none v none' found)
  chap_one (Again r) Ignore a b (new, (x, n, req), (v, found, reply)) (new', open_still) = absurd (found_none v (open_still x n req).0 found)
  chap_one Refuse (Ask d) a b (fresh, none, new, (v, n, req, refused)) (fresh', none', new', (v', n', req', name, dn, dp)) = absurd (named_too v' n' v n req' name req refused)
  chap_one Refuse (Again q) a b (fresh, none, new, what) (new', req', (v, found, reply)) = absurd (found_none v none found)
  chap_one Refuse Refuse a b (fresh, none, new, what) (fresh', none', new', what') = (refl, new ∙ sym new')
  chap_one Refuse Ignore a b (fresh, none, new, (v, n, req, refused)) (new', open_still) = absurd (asked_not fresh (open_still v n req).1)
  chap_one Ignore (Ask d) a b (new, open_still) (fresh', none', new', (v, n, req, name, dn, dp)) = absurd (asked_not fresh' (open_still v n req).1)
  chap_one Ignore (Again q) a b (new, open_still) (new', (x, n, req), (v, found, reply)) = absurd (found_none v (open_still x n req).0 found)
  chap_one Ignore Refuse a b (new, open_still) (fresh', none', new', (v, n, req, refused)) = absurd (asked_not fresh' (open_still v n req).1)
  chap_one Ignore Ignore a b (new, open_still) (new', open_still') = (refl, new ∙ sym new')

-- Both ------------------------------------------------------------------------------------------------------------------

pub auth_takes_one : (old : Authentication) (p : ControlPacket) (s t : AuthStep) (a b : Authentication) → AuthTakes old p s a → AuthTakes old p t b → (seen_of s ≡ seen_of t) × (a ≡ b)
auth_takes_one auth.Idle p s t a b x y = (ap seen_of (x.0 ∙ sym y.0), x.1 ∙ sym y.1)
auth_takes_one (auth.Pap q) p s t a b (after, takes, e) (after', takes', e') =
    let same = pap_one p q s t after after' takes takes' in
    (same.0, e ∙ ap (λ (n : PapQuestion). auth.Pap n) same.1 ∙ sym e')
auth_takes_one (auth.Chap q sent) p s t a b (after, takes, e) (after', takes', e') =
    let same = chap_one p q s t after after' takes takes' in
    (same.0, e ∙ ap (λ (n : ChapQuestion). auth.Chap n sent) same.1 ∙ sym e')

pub auth_settles_one : (old : Authentication) (found : Bool) (text : List ℕ) (s t : Option Reply) (a b : Authentication) → AuthSettles old found text s a → AuthSettles old found text t b → (s ≡ t) × (a ≡ b)
auth_settles_one auth.Idle found text s t a b x y = (x.0 ∙ sym y.0, x.1 ∙ sym y.1)
auth_settles_one (auth.Pap q) found text s t a b (r, after, settles, is, e) (r', after', settles', is', e') =
    (is ∙ ap Some (settles.1 ∙ sym settles'.1) ∙ sym is', e ∙ ap (λ (n : PapQuestion). auth.Pap n) (settles.0 ∙ sym settles'.0) ∙ sym e')
auth_settles_one (auth.Chap q sent) found text s t a b (r, after, settles, is, e) (r', after', settles', is', e') =
    (is ∙ ap Some (settles.1 ∙ sym settles'.1) ∙ sym is', e ∙ ap (λ (n : ChapQuestion). auth.Chap n sent) (settles.0 ∙ sym settles'.0) ∙ sym e')
