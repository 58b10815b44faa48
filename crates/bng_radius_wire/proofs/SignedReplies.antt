-- A reply that was signed has the right digests.
use Rattle.std.proofs.Common.{◌≡◌, ℕ, zero, suc, ◌+◌, ◌-◌, ◌<◌, ◌≤◌, Bool, true, false, cond, eqb, List, [], ◌∷◌, ◌++◌, length, Some, refl, sym, ap, subst, ◌⊎◌, inl, inr, ⊎_elim, ◌∙◌, arith}
use Rattle.std.specs.Prelude.{slice_get, slice_set, count_by}
use Rattle.std.specs.List.{AllByRecursion}
use Rattle.std.proofs.lemmas.Bool.{cases_lt}
use Rattle.std.proofs.lemmas.Bool.Decides.{Decides-eqb}
use Rattle.std.proofs.lemmas.List.{set-set, set_at, append-nil}
use Rattle.std.proofs.lemmas.List.Sums.{sum_by-cons, sum_by-append}
use Rattle.std.proofs.lemmas.Option.{slice_get_within}
use Rattle.bng_digest.specs.Authentication.{hmac_md5}
use Rattle.bng_radius_wire.specs.declared.kinds.TheConstants.{MESSAGE_AUTHENTICATOR}
use Rattle.bng_radius_wire.specs.Attributes.{Field}
use Rattle.bng_radius_wire.specs.Grammar.{Packet, attributes_text, spelling}
use Rattle.bng_radius_wire.specs.Digests.{zeros, is_message_authenticator, message_authenticator, with_message_authenticator, response_authenticator, signed_reply, CanBeSigned, IsRightAt, IsSigned}
use Rattle.bng_radius_wire.specs.Places.{IsOther, FirstStandsAt}
use Rattle.bng_radius_wire.proofs.Checks.{get_at, other_at}
use Rattle.bng_radius_wire.proofs.Signs.{filled_first, filled_none}

-- the first Message-Authenticator, or none
abbrev Found : List Field → ℕ → Type 0
Found fs start = ((at : ℕ) × FirstStandsAt fs start at) ⊎ AllByRecursion IsOther fs

is_other : (f : Field) → eqb f.kind MESSAGE_AUTHENTICATOR ≡ false → IsOther f
is_other f e = λ is. absurd (let yes = (Decides-eqb f.kind MESSAGE_AUTHENTICATOR).1 is in let no : true ≡ false = sym yes ∙ e in cc)

first_of : (f : Field) (fs : List Field) (start : ℕ) (b : Bool) → eqb f.kind MESSAGE_AUTHENTICATOR ≡ b → Found fs start → Found (f ∷ fs) start
first_of f fs start true e later =
    inl (start, record { before = []; here = f; after = fs; are = refl; others = tt; kind = (Decides-eqb f.kind MESSAGE_AUTHENTICATOR).0 e; place = omega arith })
first_of f fs start false e later =
    ⊎_elim
    (λ found. inl (
      start + length (attributes_text (f ∷ found.1.before)),
      record {
        before = f ∷ found.1.before;
        here = found.1.here;
        after = found.1.after;
        are = ap (λ (r : List Field). f ∷ r) found.1.are;
        others = (is_other f e, found.1.others);
        kind = found.1.kind;
        place = refl;
      },
    ))
    (λ none. inr (is_other f e, none))
    later

find_first : (fs : List Field) (start : ℕ) → Found fs start
find_first [] start = inr tt
find_first (f ∷ fs) start = first_of f fs start (eqb f.kind MESSAGE_AUTHENTICATOR) refl (find_first fs start)

-- where none is counted there is none
counted_one : (a : Field) (n : ℕ) (b : Bool) → eqb a.kind MESSAGE_AUTHENTICATOR ≡ b → cond (eqb a.kind MESSAGE_AUTHENTICATOR) 1 0 + n ≡ 0 → IsOther a × (n ≡ 0)
counted_one a n true e sum = absurd (let one : 1 + n ≡ 0 = ap (λ (b : Bool). cond b 1 0 + n) (sym e) ∙ sum in omega (arith, one))
counted_one a n false e sum = (is_other a e, let rest : 0 + n ≡ 0 = ap (λ (b : Bool). cond b 1 0 + n) (sym e) ∙ sum in omega (arith, rest))

none_counted : (fs : List Field) → count_by is_message_authenticator fs ≡ 0 → (k : ℕ) (f : Field) → slice_get fs k ≡ Some f → IsOther f
none_counted [] none k f is = absurd cc
none_counted (a ∷ fs) none zero f is =
    let parts = counted_one a (count_by is_message_authenticator fs) (eqb a.kind MESSAGE_AUTHENTICATOR) refl (sym (sum_by-cons (λ x. cond (is_message_authenticator x) 1 0) a fs) ∙ none) in
    subst IsOther (let e : a ≡ f = cc in e) parts.0
none_counted (a ∷ fs) none (suc k) f is =
    let parts = counted_one a (count_by is_message_authenticator fs) (eqb a.kind MESSAGE_AUTHENTICATOR) refl (sym (sum_by-cons (λ x. cond (is_message_authenticator x) 1 0) a fs) ∙ none) in
    none_counted fs parts.1 k f is

behind : (before after : List Field) (here : Field) (k : ℕ) → slice_get (before ++ here ∷ after) (length before + (1 + k)) ≡ slice_get after k
behind [] after here k = ap (slice_get (here ∷ after)) (let e : 0 + (1 + k) ≡ suc k = omega arith in e)
behind (b ∷ before) after here k = ap (slice_get (b ∷ (before ++ here ∷ after))) (let e : suc (length before) + (1 + k) ≡ suc (length before + (1 + k)) = omega arith in e) ∙ behind before after here k

none_after : (before after : List Field) (here : Field) → here.kind ≡ MESSAGE_AUTHENTICATOR → count_by is_message_authenticator (before ++ here ∷ after) ≤ 1 → count_by is_message_authenticator after ≡ 0
none_after before after here kind one =
    let whole = sum_by-append (λ x. cond (is_message_authenticator x) 1 0) before (here ∷ after) in
    let from_here = sum_by-cons (λ x. cond (is_message_authenticator x) 1 0) here after ∙ ap (λ (b : Bool). cond b 1 0 + count_by is_message_authenticator after) ((Decides-eqb here.kind MESSAGE_AUTHENTICATOR).1 kind) in
    omega (arith, one, whole, from_here)

closed : Packet → (request secret : List ℕ) → Packet
closed q request secret = record q { authenticator = response_authenticator q request secret }

signed_none : (p : Packet) (request secret : List ℕ) → AllByRecursion IsOther p.attributes → IsSigned (closed p request secret) request secret
unfolding closed
signed_none p request secret others = record {
  response = refl;
  messages = λ i f is kind.
      let inside : i < 0 + length p.attributes = omega (arith, slice_get_within p.attributes i f is) in
      absurd (other_at [] p.attributes [] i f others (omega arith) inside (ap (λ (fs : List Field). slice_get fs i) (append-nil p.attributes) ∙ is) kind);
}

module _ (p : Packet) (request secret : List ℕ) (at : ℕ) (first : FirstStandsAt p.attributes 20 at) (one : count_by is_message_authenticator p.attributes ≤ 1) where
  made : Field
  made = record { kind = MESSAGE_AUTHENTICATOR; value = message_authenticator p (length first.before) request secret }

  filled_packet : Packet
  filled_packet = with_message_authenticator p (length first.before) (message_authenticator p (length first.before) request secret)

  now_are : filled_packet.attributes ≡ first.before ++ made ∷ first.after
  unfolding filled_packet made
  now_are = ap (λ (fs : List Field). slice_set fs (length first.before) made) first.are ∙ set_at first.before first.here first.after made (length first.before) refl

  -- the digest is over the packet with zeros there, whatever stood there
  same_digest : made.value ≡ message_authenticator (closed filled_packet request secret) (length first.before) request secret
  unfolding filled_packet made closed
  same_digest = ap (λ (fs : List Field). hmac_md5 secret (spelling (record { code = p.code; id = p.id; authenticator = request; attributes = fs }))) (sym (set-set p.attributes (length first.before) made (record { kind = MESSAGE_AUTHENTICATOR; value = zeros })))

  right_at : (i : ℕ) → IsRightAt (closed filled_packet request secret) i request secret
  unfolding closed
  right_at i = ⊎_elim before (λ from. ⊎_elim (after from) (here from) (cases_lt (length first.before) i)) (cases_lt i (length first.before))
    where
      before : i < length first.before → IsRightAt (closed filled_packet request secret) i request secret
      before below = λ f is kind. absurd (other_at [] first.before (made ∷ first.after) i f first.others (omega arith) (omega arith) (ap (λ (fs : List Field). slice_get fs i) (sym now_are) ∙ is) kind)

      here : length first.before ≤ i → i ≤ length first.before → IsRightAt (closed filled_packet request secret) i request secret
      here from to = let e : i ≡ length first.before = omega arith in
          subst (λ (n : ℕ). IsRightAt (closed filled_packet request secret) n request secret) (sym e)
          (λ f is kind.
          let same : Some f ≡ Some made = sym is ∙ ap (λ (fs : List Field). slice_get fs (length first.before)) now_are ∙ get_at first.before first.after made in
          let is_made : f ≡ made = cc in
          ap (λ (g : Field). g.value) is_made ∙ same_digest)

      after : length first.before ≤ i → length first.before < i → IsRightAt (closed filled_packet request secret) i request secret
      after from past = λ f is kind.
          let e : i ≡ length first.before + (1 + (i - (length first.before + 1))) = omega arith in
          absurd (none_counted first.after (none_after first.before first.after first.here first.kind (subst (λ (fs : List Field). count_by is_message_authenticator fs ≤ 1) first.are one)) (i - (length first.before + 1)) f
          (sym (behind first.before first.after made (i - (length first.before + 1))) ∙ ap (slice_get (first.before ++ made ∷ first.after)) (sym e) ∙ ap (λ (fs : List Field). slice_get fs i) (sym now_are) ∙ is) kind)

  signed_first : IsSigned (closed filled_packet request secret) request secret
  unfolding closed
  signed_first = record { response = refl; messages = right_at }

pub signed_is : (p : Packet) (request secret : List ℕ) → CanBeSigned p → IsSigned (signed_reply p request secret) request secret
unfolding closed filled_packet
signed_is p request secret can =
    ⊎_elim
    (λ found. subst (λ (q : Packet). IsSigned (closed q request secret) request secret) (sym (filled_first p found.0 found.1 request secret)) (signed_first p request secret found.0 found.1 can.one))
    (λ none. subst (λ (q : Packet). IsSigned (closed q request secret) request secret) (sym (filled_none p request secret none)) (signed_none p request secret none))
    (find_first p.attributes 20)
