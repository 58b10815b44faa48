-- How far a check of the Message-Authenticators of a packet has come.
use Rattle.std.proofs.Common.{◌≡◌, ◌≢◌, ℕ, zero, suc, ◌+◌, ◌<◌, ◌≤◌, Bool, true, false, not, List, [], ◌∷◌, ◌++◌, length, get_or, take, drop, Some, refl, sym, ap, subst, ⊎_elim, ◌∙◌, arith, length-append, append_assoc}
use Rattle.std.specs.Prelude.{slice_get, slice_range}
use Rattle.std.specs.List.{concat, AllByRecursion}
use Rattle.std.specs.Str.{bytes_eq}
use Rattle.std.proofs.lemmas.Slice.Eq.{bytes_eq-Decides}
use Rattle.std.proofs.lemmas.Bool.{cases_lt}
use Rattle.std.proofs.lemmas.List.{append-nil}
use Rattle.std.proofs.lemmas.Option.{slice_get_within}
use Rattle.std.proofs.lemmas.List.Concat.{flat_map-append}
use Rattle.md5.proofs.StandardFacts.{length-md5}
use Rattle.bng_digest.specs.Authentication.{hmac_md5}
use Rattle.bng_radius_wire.specs.Attributes.{Field, Fits, text, AreAttributes}
use Rattle.bng_radius_wire.specs.Grammar.{Packet, IsSpelled, attributes_text}
use Rattle.bng_radius_wire.specs.Digests.{zeros, IsRightAt, message_authenticator}
use Rattle.bng_radius_wire.specs.Places.{IsOther, FirstStandsAt}
use Rattle.bng_radius_wire.proofs.Spelled.{are_attributes}
use Rattle.bng_radius_wire.proofs.Digested.{Stands, back_part, size_at, place_there, value_at, message_is}

is_true : (b : Bool) → false ≡ not b → b ≡ true
is_true true e = refl
is_true false e = absurd cc

is_false : (b : Bool) → true ≡ not b → b ≡ true → ⊥
is_false true e h = absurd cc
is_false false e h = absurd cc

-- what `!=` says of two texts
pub same_texts : (xs ys : List ℕ) → false ≡ not (bytes_eq xs ys) → xs ≡ ys
same_texts xs ys e = (bytes_eq-Decides xs ys).0 (is_true (bytes_eq xs ys) e)

pub other_texts : (xs ys : List ℕ) → true ≡ not (bytes_eq xs ys) → xs ≢ ys
other_texts xs ys e = λ same. is_false (bytes_eq xs ys) e ((bytes_eq-Decides xs ys).1 same)

pub get_at : (before after : List Field) (here : Field) → slice_get (before ++ here ∷ after) (length before) ≡ Some here
get_at [] after here = refl
get_at (b ∷ before) after here = get_at before after here

-- no Message-Authenticator stands among others
pub other_at : (seen before after : List Field) (i : ℕ) (f : Field) → AllByRecursion IsOther before → length seen ≤ i → i < length seen + length before
    → slice_get (seen ++ (before ++ after)) i ≡ Some f → IsOther f
other_at (s ∷ seen) before after zero f others from below is = absurd (omega arith)
other_at (s ∷ seen) before after (suc i) f others from below is = other_at seen before after i f others (omega arith) (omega arith) is
other_at [] [] after i f others from below is = absurd (omega arith)
other_at [] (b ∷ before) after zero f others from below is = subst IsOther (let e : b ≡ f = cc in e) others.0
other_at [] (b ∷ before) after (suc i) f others from below is = other_at [] before after i f others.1 (omega arith) (omega arith) is

fit_behind : (before after : List Field) → AllByRecursion Fits (before ++ after) → AllByRecursion Fits after
fit_behind [] after fit = fit
fit_behind (b ∷ before) after fit = fit_behind before after fit.1

pub record Checked (p : Packet) (request secret : List ℕ) (start : ℕ) (packet : List ℕ) : Type 0 where
  pub seen : List Field
  pub rest : List Field
  pub are : p.attributes ≡ seen ++ rest
  pub place : start ≡ 20 + length (attributes_text seen)
  pub left : AreAttributes rest (drop start packet)
  pub right : (i : ℕ) → i < length seen → IsRightAt p i request secret

pub check_begins : (p : Packet) (request secret packet : List ℕ) → IsSpelled p packet → Checked p request secret 20 packet
check_begins p request secret packet h = record { seen = []; rest = p.attributes; are = refl; place = omega arith; left = are_attributes p packet h; right = λ i below. absurd (omega arith) }

module _ (p : Packet) (request secret : List ℕ) (start at : ℕ) (packet : List ℕ) (checked : Checked p request secret start packet) (first : FirstStandsAt checked.rest start at) where
  pub all_before : List Field
  all_before = checked.seen ++ first.before

  pub stands : Stands p all_before first.after first.here at
  unfolding all_before
  stands = record {
    are = checked.are ∙ ap (λ (r : List Field). checked.seen ++ r) first.are ∙ sym (append_assoc checked.seen first.before (first.here ∷ first.after));
    place = omega (arith, checked.place, first.place, ap length (flat_map-append text checked.seen first.before), length-append (attributes_text checked.seen) (attributes_text first.before));
  }

  pub size_here : IsSpelled p packet → get_or packet (at + 1) 0 ≡ 2 + length first.here.value
  size_here h = size_at p all_before first.after first.here at packet stands h

  pub there_here : IsSpelled p packet → at + (2 + length first.here.value) ≤ length packet
  there_here h = place_there p all_before first.after first.here at packet stands h

  pub digest_here : IsSpelled p packet → length first.here.value ≡ 16
      → hmac_md5 secret (concat (take 4 packet ∷ request ∷ slice_range packet 20 (at + 2) ∷ zeros ∷ drop (at + 18) packet ∷ [])) ≡ message_authenticator p (length all_before) request secret
  digest_here h sixteen = message_is p all_before first.after first.here at packet stands h request secret first.kind sixteen

  pub value_here : IsSpelled p packet → length first.here.value ≡ 16 → slice_range packet (at + 2) (at + 2 + 16) ≡ first.here.value
  value_here h sixteen = value_at p all_before first.after first.here at packet stands h sixteen

  -- a value that has not 16 octets is wrong
  pub wrong_size : length first.here.value ≢ 16 → first.here.value ≢ message_authenticator p (length all_before) request secret
  unfolding hmac_md5
  wrong_size wrong = λ e. wrong (ap length e ∙ length-md5 _)

  -- a Message-Authenticator that is wrong
  pub is_wrong : first.here.value ≢ message_authenticator p (length all_before) request secret → ((i : ℕ) → IsRightAt p i request secret) → ⊥
  is_wrong wrong right =
      wrong (right (length all_before) first.here (ap (λ (fs : List Field). slice_get fs (length all_before)) stands.are ∙ get_at all_before first.after first.here) first.kind)

  -- one that is right
  pub check_on : IsSpelled p packet → length first.here.value ≡ 16 → first.here.value ≡ message_authenticator p (length all_before) request secret → Checked p request secret (at + 18) packet
  unfolding all_before
  check_on h sixteen right_here = record {
    seen = all_before ++ first.here ∷ [];
    rest = first.after;
    are = stands.are ∙ sym (append_assoc all_before (first.here ∷ []) first.after);
    place = omega (arith, stands.place, sixteen, ap length (flat_map-append text all_before (first.here ∷ [])), length-append (attributes_text all_before) (attributes_text (first.here ∷ [])), length-append first.here.value []);
    left = record { fit = fit_behind (all_before ++ first.here ∷ []) first.after (subst (AllByRecursion Fits) (stands.are ∙ sym (append_assoc all_before (first.here ∷ []) first.after)) h.fit); spelled = back_part p all_before first.after first.here at packet stands h sixteen };
    right = λ i below. ⊎_elim (checked.right i) (later i below) (cases_lt i (length checked.seen));
  }
    where
      at_here : (i : ℕ) → i ≡ length all_before → IsRightAt p i request secret
      at_here i e = subst (λ (n : ℕ). IsRightAt p n request secret) (sym e) (λ f is kind.
          let same : Some f ≡ Some first.here = sym is ∙ ap (λ (fs : List Field). slice_get fs (length all_before)) stands.are ∙ get_at all_before first.after first.here in
          let e : f ≡ first.here = cc in
          ap (λ (g : Field). g.value) e ∙ right_here)

      between : (i : ℕ) → length checked.seen ≤ i → i < length all_before → IsRightAt p i request secret
      between i from below = λ f is kind.
          absurd (other_at checked.seen first.before (first.here ∷ first.after) i f first.others from (omega (arith, below, length-append checked.seen first.before))
          (ap (λ (fs : List Field). slice_get fs i) (sym (checked.are ∙ ap (λ (r : List Field). checked.seen ++ r) first.are)) ∙ is) kind)

      later : (i : ℕ) → i < length (all_before ++ first.here ∷ []) → length checked.seen ≤ i → IsRightAt p i request secret
      later i below from = ⊎_elim (between i from) (λ le. at_here i (omega (arith, le, below, length-append all_before (first.here ∷ [])))) (cases_lt i (length all_before))

-- nothing is left to be checked
pub check_ends : (p : Packet) (request secret : List ℕ) (start : ℕ) (packet : List ℕ) (checked : Checked p request secret start packet) → AllByRecursion IsOther checked.rest → (i : ℕ) → IsRightAt p i request secret
check_ends p request secret start packet checked others i = ⊎_elim (checked.right i) later (cases_lt i (length checked.seen))
  where
    later : length checked.seen ≤ i → IsRightAt p i request secret
    later from = λ f is kind.
        let inside : i < length checked.seen + length checked.rest = omega (arith, slice_get_within p.attributes i f is, ap length checked.are, length-append checked.seen checked.rest) in
        absurd (other_at checked.seen checked.rest [] i f others from inside
        (ap (λ (fs : List Field). slice_get fs i) (ap (λ (r : List Field). checked.seen ++ r) (append-nil checked.rest) ∙ sym checked.are) ∙ is) kind)
