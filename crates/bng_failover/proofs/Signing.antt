-- A signed request can be signed again.
use Rattle.std.proofs.Common.{◌≡◌, ℕ, zero, suc, ◌+◌, ◌-◌, ◌≤◌, Bool, true, false, cond, List, [], ◌∷◌, length, set, Option, Some, None, refl, sym, ap, subst, ◌∙◌, arith}
use Rattle.std.specs.Prelude.{count_by}
use Rattle.std.specs.List.{position_from, AllByRecursion}
use Rattle.std.proofs.lemmas.List.Sums.{sum_by-cons}
use Rattle.md5.proofs.StandardFacts.{length-md5}
use Rattle.bng_digest.specs.Authentication.{hmac_md5}
use Rattle.bng_radius_wire.specs.Attributes.{Field}
use Rattle.bng_radius_wire.specs.Grammar.{Packet}
use Rattle.bng_radius_wire.specs.Digests.{is_message_authenticator, message_authenticator, zeros, filled, filled_at, signed_reply, has_digest, signed_request, HasRoom, CanBeSigned}

-- a Message-Authenticator with this value
abbrev digest : List ℕ → Field
digest value = record { kind = 80; value = value }

abbrev one : Field → ℕ
one f = cond (is_message_authenticator f) 1 0

module _ (value : List ℕ) where
  abbrev AreAsMany : List Field → ℕ → Type 0
  AreAsMany fs at = count_by is_message_authenticator (set fs at (digest value)) ≡ count_by is_message_authenticator fs

  -- there are as many of them
  as_many : (fs : List Field) (i n : ℕ) → position_from is_message_authenticator i fs ≡ Some n → (i ≤ n) × AreAsMany fs (n - i)
  as_many [] i n e = absurd cc
  as_many (f ∷ fs) i n e = by_kind (is_message_authenticator f) refl (as_many fs (i + 1) n)
    where
      by_kind : (b : Bool) → is_message_authenticator f ≡ b → (position_from is_message_authenticator (i + 1) fs ≡ Some n → (i + 1 ≤ n) × AreAsMany fs (n - (i + 1))) → (i ≤ n) × AreAsMany (f ∷ fs) (n - i)
      by_kind true here further =
          let at : Some i ≡ Some n = sym (ap (λ (b : Bool). cond b (Some i) (position_from is_message_authenticator (i + 1) fs)) here) ∙ e in
          let same : i ≡ n = cc in
          let front : n - i ≡ 0 = omega (arith, same) in
          let was : one f ≡ 1 = ap (λ (b : Bool). cond b 1 0) here in
          (omega (arith, same), ap (λ (k : ℕ). count_by is_message_authenticator (set (f ∷ fs) k (digest value))) front ∙ omega (arith, was, sum_by-cons one (digest value) fs, sum_by-cons one f fs))
      by_kind false other further =
          let rest = further (sym (ap (λ (b : Bool). cond b (Some i) (position_from is_message_authenticator (i + 1) fs)) other) ∙ e) in
          let next : n - i ≡ suc (n - (i + 1)) = omega (arith, rest.0) in
          (omega (arith, rest.0), ap (λ (k : ℕ). count_by is_message_authenticator (set (f ∷ fs) k (digest value))) next ∙ omega (arith, rest.1, sum_by-cons one f (set fs (n - (i + 1)) (digest value)), sum_by-cons one f fs))

  -- each of them has room for a digest
  rooms : length value ≡ 16 → (fs : List Field) (at : ℕ) → AllByRecursion HasRoom fs → AllByRecursion HasRoom (set fs at (digest value))
  rooms long [] at each = each
  rooms long (f ∷ fs) zero each = (λ _. long, each.1)
  rooms long (f ∷ fs) (suc at) each = (each.0, rooms long fs at each.1)

from_front : (n : ℕ) → n - 0 ≡ n
from_front n = omega arith

can_at : (p : Packet) (authenticator secret : List ℕ) → CanBeSigned p → (o : Option ℕ) → position_from is_message_authenticator 0 p.attributes ≡ o → CanBeSigned (filled_at o p authenticator secret)
unfolding hmac_md5
can_at p authenticator secret can None e = can
can_at p authenticator secret can (Some n) e =
    let value = message_authenticator p n authenticator secret in
    let same = subst (AreAsMany value p.attributes) (from_front n) (as_many value p.attributes 0 n e).1 in
    record { one = subst (λ (k : ℕ). k ≤ 1) (sym same) can.one; sized = rooms value (length-md5 _) p.attributes n can.sized }

can_fill : (p : Packet) (authenticator secret : List ℕ) → CanBeSigned p → CanBeSigned (filled p authenticator secret)
can_fill p authenticator secret can = can_at p authenticator secret can (position_from is_message_authenticator 0 p.attributes) refl

by_code : (p : Packet) (secret : List ℕ) → CanBeSigned p → (b : Bool) → has_digest p.code ≡ b → CanBeSigned (signed_request p secret)
by_code p secret can true e =
    let q = can_fill p zeros secret can in
    subst CanBeSigned (sym (ap (λ (b : Bool). cond b (signed_reply p zeros secret) (filled p p.authenticator secret)) e)) (record { one = q.one; sized = q.sized })
by_code p secret can false e = subst CanBeSigned (sym (ap (λ (b : Bool). cond b (signed_reply p zeros secret) (filled p p.authenticator secret)) e)) (can_fill p p.authenticator secret can)

pub can_again : (p : Packet) (secret : List ℕ) → CanBeSigned p → CanBeSigned (signed_request p secret)
can_again p secret can = by_code p secret can (has_digest p.code) refl
