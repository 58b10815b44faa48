-- A request whose Message-Authenticator is filled.
use Rattle.std.proofs.Common.{◌≡◌, ℕ, suc, ◌+◌, ◌-◌, ◌≤◌, Bool, true, false, cond, List, [], ◌∷◌, length, set, map, drop, Option, Some, None, refl, sym, ap, subst, ◌∙◌, arith, length-append}
use Rattle.std.specs.List.{position_from, AllByRecursion}
use Rattle.std.proofs.lemmas.List.{length-take, length-drop}
use Rattle.std.proofs.lemmas.Bool.Decides.{Decides-eqb}
use Rattle.md5.proofs.StandardFacts.{length-md5}
use Rattle.bng_digest.specs.Authentication.{hmac_md5}
use Rattle.bng_radius_wire.specs.Attributes.{Field, text}
use Rattle.bng_radius_wire.specs.Grammar.{Packet, IsRadius, length_in, attributes_text}
use Rattle.bng_radius_wire.specs.Digests.{is_message_authenticator, message_authenticator, filled, filled_at, HasRoom, CanBeSigned}
use Rattle.bng_radius_wire.proofs.Spelled.{size_of}
use Rattle.bng_lane.specs.Laws.{but_for_digest}

-- a Message-Authenticator with this value
abbrev digest : List ℕ → Field
digest value = record { kind = 80; value = value }

module _ (value : List ℕ) where
  abbrev AreAlike : List Field → ℕ → Type 0
  AreAlike fs at = map but_for_digest (set fs at (digest value)) ≡ map but_for_digest fs

  -- the attributes are the same but for that value
  pub alike : (fs : List Field) (i n : ℕ) → position_from is_message_authenticator i fs ≡ Some n → (i ≤ n) × AreAlike fs (n - i)
  alike [] i n e = absurd cc
  alike (f ∷ fs) i n e = by_kind (is_message_authenticator f) refl (alike fs (i + 1) n)
    where
      by_kind : (b : Bool) → is_message_authenticator f ≡ b → (position_from is_message_authenticator (i + 1) fs ≡ Some n → (i + 1 ≤ n) × AreAlike fs (n - (i + 1))) → (i ≤ n) × AreAlike (f ∷ fs) (n - i)
      by_kind true here further =
          let at : Some i ≡ Some n = sym (ap (λ (b : Bool). cond b (Some i) (position_from is_message_authenticator (i + 1) fs)) here) ∙ e in
          let same : i ≡ n = cc in
          let front : n - i ≡ 0 = omega (arith, same) in
          let kind : f.kind ≡ 80 = (Decides-eqb f.kind 80).0 here in
          let blank : ℕ → Field = λ k. record { kind = k; value = [] } in
          let one : but_for_digest f ≡ blank 80 = ap (λ (b : Bool). cond b (blank f.kind) f) here ∙ ap blank kind in
          (omega (arith, same), ap (λ (k : ℕ). map but_for_digest (set (f ∷ fs) k (digest value))) front ∙ ap (λ (x : Field). x ∷ map but_for_digest fs) (sym one))
      by_kind false other further =
          let rest = further (sym (ap (λ (b : Bool). cond b (Some i) (position_from is_message_authenticator (i + 1) fs)) other) ∙ e) in
          let next : n - i ≡ suc (n - (i + 1)) = omega (arith, rest.0) in
          (omega (arith, rest.0), ap (λ (k : ℕ). map but_for_digest (set (f ∷ fs) k (digest value))) next ∙ ap (λ (xs : List Field). but_for_digest f ∷ xs) rest.1)

  -- and as long
  pub as_long : length value ≡ 16 → (fs : List Field) (i n : ℕ) → AllByRecursion HasRoom fs → position_from is_message_authenticator i fs ≡ Some n
      → (i ≤ n) × (length (attributes_text (set fs (n - i) (digest value))) ≡ length (attributes_text fs))
  as_long long [] i n rooms e = absurd cc
  as_long long (f ∷ fs) i n rooms e = by_kind (is_message_authenticator f) refl (as_long long fs (i + 1) n rooms.1)
    where
      by_kind : (b : Bool) → is_message_authenticator f ≡ b → (position_from is_message_authenticator (i + 1) fs ≡ Some n → (i + 1 ≤ n) × (length (attributes_text (set fs (n - (i + 1)) (digest value))) ≡ length (attributes_text fs))) → (i ≤ n) × (length (attributes_text (set (f ∷ fs) (n - i) (digest value))) ≡ length (attributes_text (f ∷ fs)))
      by_kind true here further =
          let at : Some i ≡ Some n = sym (ap (λ (b : Bool). cond b (Some i) (position_from is_message_authenticator (i + 1) fs)) here) ∙ e in
          let same : i ≡ n = cc in
          let front : n - i ≡ 0 = omega (arith, same) in
          let sixteen : length f.value ≡ 16 = rooms.0 ((Decides-eqb f.kind 80).0 here) in (
            omega (arith, same),
            ap (λ (k : ℕ). length (attributes_text (set (f ∷ fs) k (digest value)))) front
                ∙ omega (arith, long, sixteen, length-append (text (digest value)) (attributes_text fs), length-append (text f) (attributes_text fs)),
          )
      by_kind false other further =
          let rest = further (sym (ap (λ (b : Bool). cond b (Some i) (position_from is_message_authenticator (i + 1) fs)) other) ∙ e) in
          let next : n - i ≡ suc (n - (i + 1)) = omega (arith, rest.0) in (
            omega (arith, rest.0),
            ap (λ (k : ℕ). length (attributes_text (set (f ∷ fs) k (digest value)))) next
                ∙ omega (arith, rest.1, length-append (text f) (attributes_text (set fs (n - (i + 1)) (digest value))), length-append (text f) (attributes_text fs)),
          )

from_front : (n : ℕ) → n - 0 ≡ n
from_front n = omega arith

module _ (p : Packet) (authenticator secret : List ℕ) where
  code_at : (o : Option ℕ) → (filled_at o p authenticator secret).code ≡ p.code
  code_at None = refl
  code_at (Some n) = refl

  id_at : (o : Option ℕ) → (filled_at o p authenticator secret).id ≡ p.id
  id_at None = refl
  id_at (Some n) = refl

  authenticator_at : (o : Option ℕ) → (filled_at o p authenticator secret).authenticator ≡ p.authenticator
  authenticator_at None = refl
  authenticator_at (Some n) = refl

  alike_at : (o : Option ℕ) → position_from is_message_authenticator 0 p.attributes ≡ o → map but_for_digest (filled_at o p authenticator secret).attributes ≡ map but_for_digest p.attributes
  alike_at None e = refl
  alike_at (Some n) e = subst (AreAlike (message_authenticator p n authenticator secret) p.attributes) (from_front n) (alike (message_authenticator p n authenticator secret) p.attributes 0 n e).1

  size_at : CanBeSigned p → (o : Option ℕ) → position_from is_message_authenticator 0 p.attributes ≡ o → size_of (filled_at o p authenticator secret) ≡ size_of p
  unfolding hmac_md5
  size_at can None e = refl
  size_at can (Some n) e =
      ap (λ (k : ℕ). size_of (record p { attributes = set p.attributes k (digest (message_authenticator p n authenticator secret)) })) (sym (from_front n))
      ∙ ap (λ (k : ℕ). 20 + k) (as_long (message_authenticator p n authenticator secret) (length-md5 _) p.attributes 0 n can.sized e).1

  pub filled_code : (filled p authenticator secret).code ≡ p.code
  filled_code = code_at (position_from is_message_authenticator 0 p.attributes)

  pub filled_id : (filled p authenticator secret).id ≡ p.id
  filled_id = id_at (position_from is_message_authenticator 0 p.attributes)

  pub filled_authenticator : (filled p authenticator secret).authenticator ≡ p.authenticator
  filled_authenticator = authenticator_at (position_from is_message_authenticator 0 p.attributes)

  pub filled_alike : map but_for_digest (filled p authenticator secret).attributes ≡ map but_for_digest p.attributes
  filled_alike = alike_at (position_from is_message_authenticator 0 p.attributes) refl

  pub filled_size : CanBeSigned p → size_of (filled p authenticator secret) ≡ size_of p
  filled_size can = size_at can (position_from is_message_authenticator 0 p.attributes) refl

sized : (p : Packet) (octets : List ℕ) → IsRadius p octets → size_of p ≡ length_in octets
sized p octets is = omega (arith, ap length is.attributes.spelled, length-take (length_in octets - 20) (drop 20 octets), length-drop 20 octets, is.at_least, is.is_there)

-- octets that hold the filled request, and have no more than the Length of the request says, have no padding
pub without_padding : (p q : Packet) (request octets : List ℕ) → IsRadius p request → IsRadius q octets → size_of q ≡ size_of p → length octets ≡ length_in request → length_in octets ≡ length octets
without_padding p q request octets a b same size = omega (arith, sized p request a, sized q octets b, same, size)
