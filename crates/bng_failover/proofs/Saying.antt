-- What a signed request says.
use Rattle.std.proofs.Common.{◌≡◌, inl, inr, ℕ, suc, ◌+◌, ◌-◌, ◌≤◌, Bool, true, false, cond, List, [], ◌∷◌, set, map, Option, Some, None, refl, sym, ap, subst, ◌∙◌, arith}
use Rattle.std.specs.Prelude.{slice_get, length}
use Rattle.std.specs.List.{position_from}
use Rattle.std.proofs.lemmas.Bool.Decides.{Decides-eqb}
use Rattle.bng_base.specs.Packet.{Packet as Bytes}
use Rattle.bng_base.specs.declared.address.Peer.{Peer}
use Rattle.bng_radius_wire.specs.Attributes.{Field}
use Rattle.bng_radius_wire.specs.Grammar.{Packet}
use Rattle.bng_radius_wire.specs.Digests.{is_message_authenticator, message_authenticator, zeros, filled, filled_at, signed_reply, has_digest, signed_request}
use Rattle.bng_rad_client.specs.Table.{request_of}
use Rattle.bng_rad_client.specs.declared.pending.Pending.{Pending}
use Rattle.bng_rad_client.specs.declared.rules.Lane.{Lane}
use Rattle.bng_rad_client.specs.declared.rules.Owner.{Owner}
use Rattle.bng_failover.specs.declared.server.Server.{Server}
use Rattle.bng_failover.specs.Servers.{without}
use Rattle.bng_failover.specs.Asking.{IsAskedAt}
use Rattle.bng_failover.specs.Due.{IsRepeatedAt, Goes, goes_to, IsSent}
use Rattle.bng_failover.specs.Laws.{but_for_digest, SaysTheSame, SaysAgain, IsSameOrSays}

-- a Message-Authenticator with this value
abbrev digest : List ℕ → Field
digest value = record { kind = 80; value = value }

module _ (value : List ℕ) where
  abbrev AreAlike : List Field → ℕ → Type 0
  AreAlike fs at = map but_for_digest (set fs at (digest value)) ≡ map but_for_digest fs

  -- the attributes are the same but for that value
  alike : (fs : List Field) (i n : ℕ) → position_from is_message_authenticator i fs ≡ Some n → (i ≤ n) × AreAlike fs (n - i)
  alike [] i n e = absurd cc
  alike (f ∷ fs) i n e = by_kind (is_message_authenticator f) refl (alike fs (i + 1) n)
    where
      by_kind : (b : Bool) → is_message_authenticator f ≡ b → (position_from is_message_authenticator (i + 1) fs ≡ Some n → (i + 1 ≤ n) × AreAlike fs (n - (i + 1))) → (i ≤ n) × AreAlike (f ∷ fs) (n - i)
      by_kind true here further =
          let at : Some i ≡ Some n = sym (ap (λ (b : Bool). cond b (Some i) (position_from is_message_authenticator (i + 1) fs)) here) ∙ e in
          let same : i ≡ n = cc in
          let front : n - i ≡ 0 = omega (arith, same) in
          let kind : f.kind ≡ 80 = (Decides-eqb f.kind 80).0 here in
          let blank : ℕ → Field = λ k. record { kind = k; value = [] } in
          let one : but_for_digest f ≡ blank 80 = ap (λ (b : Bool). cond b (blank f.kind) f) here ∙ ap blank kind in
          (omega (arith, same), ap (λ (k : ℕ). map but_for_digest (set (f ∷ fs) k (digest value))) front ∙ ap (λ (x : Field). x ∷ map but_for_digest fs) (sym one))
      by_kind false other further =
          let rest = further (sym (ap (λ (b : Bool). cond b (Some i) (position_from is_message_authenticator (i + 1) fs)) other) ∙ e) in
          let next : n - i ≡ suc (n - (i + 1)) = omega (arith, rest.0) in
          (omega (arith, rest.0), ap (λ (k : ℕ). map but_for_digest (set (f ∷ fs) k (digest value))) next ∙ ap (λ (xs : List Field). but_for_digest f ∷ xs) rest.1)

from_front : (n : ℕ) → n - 0 ≡ n
from_front n = omega arith

says_at : (p : Packet) (authenticator secret : List ℕ) (o : Option ℕ) → position_from is_message_authenticator 0 p.attributes ≡ o → SaysTheSame p (filled_at o p authenticator secret)
says_at p authenticator secret None e = record { code = refl; attributes = refl; authenticator = λ _. refl }
says_at p authenticator secret (Some n) e = record {
  code = refl;
  attributes = subst (AreAlike (message_authenticator p n authenticator secret) p.attributes) (from_front n) (alike (message_authenticator p n authenticator secret) p.attributes 0 n e).1;
  authenticator = λ _. refl;
}

says_filled : (p : Packet) (authenticator secret : List ℕ) → SaysTheSame p (filled p authenticator secret)
says_filled p authenticator secret = says_at p authenticator secret (position_from is_message_authenticator 0 p.attributes) refl

by_code : (p : Packet) (secret : List ℕ) (b : Bool) → has_digest p.code ≡ b → SaysTheSame p (signed_request p secret)
by_code p secret true e =
    let q = says_filled p zeros secret in
    subst (SaysTheSame p) (sym (ap (λ (b : Bool). cond b (signed_reply p zeros secret) (filled p p.authenticator secret)) e))
    (record { code = q.code; attributes = q.attributes; authenticator = λ no. absurd (let both : true ≡ false = sym e ∙ no in cc) })
by_code p secret false e =
    subst (SaysTheSame p) (sym (ap (λ (b : Bool). cond b (signed_reply p zeros secret) (filled p p.authenticator secret)) e)) (says_filled p p.authenticator secret)

says_signed : (p : Packet) (id : ℕ) (secret : List ℕ) → SaysTheSame p (signed_request (record p { id = id }) secret)
says_signed p id secret =
    let same = by_code (record p { id = id }) secret (has_digest p.code) refl in
    record { code = same.code; attributes = same.attributes; authenticator = same.authenticator }

-- what a server is asked says what the request says
pub asked_says : (old new : List Server) (at : ℕ) (owner : Owner) (request secret : List ℕ) (now : ℕ) (peer : Peer) (frame : Bytes) → IsAskedAt old new at owner request secret now peer frame
    → SaysAgain request frame.payload
asked_says old new at owner request secret now peer frame h = record {
  was = h.asks.packet;
  reads = h.asks.reads;
  packet = signed_request (record h.asks.packet { id = h.asks.id }) secret;
  is = h.asks.asked.reads;
  same = says_signed h.asks.packet h.asks.id secret;
}

-- a request that is sent again has the octets that it had
repeats : (old new : List Server) (at id now : ℕ) (peer : Peer) (frame : Bytes) (s : Server) (r : Pending) → slice_get old at ≡ Some s → request_of s.requests.places id ≡ Some r
    → IsRepeatedAt old new at id now peer frame → frame.payload ≡ r.octets
repeats old new at id now peer frame s r is held h =
    let both : Some h.server ≡ Some s = sym h.is ∙ is in
    let one : h.server ≡ s = cc in
    let requests : Some h.sent.before ≡ Some r = sym h.sent.was ∙ ap (λ (x : Server). request_of x.requests.places id) one ∙ held in
    let same : h.sent.before ≡ r = cc in
    h.sent.payload ∙ ap (λ (x : Pending). x.octets) same

module _ (lane : Lane) (old new : List Server) (secret : List ℕ) (tries now : ℕ) (owner : Owner) (peer : Peer) (frame : Bytes) (h : IsSent lane old new secret tries now owner peer frame) where
  by_way : (next : Option ℕ) → Goes next old new h.at h.first.server h.due.id h.first.oldest.request secret now peer frame → IsSameOrSays h.first.oldest.request.octets frame.payload
  by_way None goes = inl (repeats old new h.at h.due.id now peer frame h.first.server h.first.oldest.request h.first.is h.first.oldest.is goes)
  by_way (Some next) goes = inr (asked_says (without old h.at h.first.server h.due.id) new next h.first.oldest.request.owner h.first.oldest.request.octets secret now peer frame goes)

  pub sent_says : IsSameOrSays h.first.oldest.request.octets frame.payload
  sent_says = by_way (goes_to lane (length old) tries h.at h.first.oldest.request) h.goes
