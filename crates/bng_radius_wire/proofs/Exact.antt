-- When each answer of a reader comes, from what each answer says.
use Rattle.std.proofs.Common.{◌≡◌, ℕ, ◌<◌, ◌≤◌, List, length, Result, Ok, Err, refl, sym, ap, subst, ◌∙◌, arith}
use Rattle.std.specs.Prelude.{◌↔◌, MatchResult, IfOk, IsOkAnd, IsErrAnd, slice_index, slice_range}
use Rattle.bng_base.proofs.PieceLaws.{one_list}
use Rattle.bng_base.specs.declared.codec.ReadError.{ReadError}
use Rattle.bng_base.specs.declared.codec.ReadError.TheVariants.{Outside, TooMany}
use Rattle.bng_radius_wire.specs.declared.views.Radius.{Radius}
use Rattle.bng_radius_wire.specs.Attributes.{Field, Fits, text, fields, WhyNoList}
use Rattle.bng_radius_wire.specs.Grammar.{Packet, whole, IsRadius, WhyNot, length_in}
use Rattle.bng_radius_wire.proofs.Progress.{is_code, length-fields}

-- octets hold one packet
pub one_packet : (p q : Packet) (octets : List ℕ) → IsRadius p octets → IsRadius q octets → p ≡ q
one_packet p q octets a b =
    let made : ℕ → ℕ → List ℕ → List Field → Packet = λ c i h fs. record { code = c; id = i; authenticator = h; attributes = fs } in
    ap (λ (c : ℕ). made c p.id p.authenticator p.attributes) (a.code ∙ sym b.code)
    ∙ ap (λ (i : ℕ). made q.code i p.authenticator p.attributes) (a.id ∙ sym b.id)
    ∙ ap (λ (h : List ℕ). made q.code q.id h p.attributes) (a.authenticator ∙ sym b.authenticator)
    ∙ ap (made q.code q.id q.authenticator) (one_list Fits text 64 is_code p.attributes q.attributes (slice_range octets 20 (length_in octets)) a.attributes b.attributes)

-- a list of attributes that is none is no packet's
pub why_not : (e : ReadError) (octets : List ℕ) → 20 ≤ length_in octets → length_in octets ≤ 4096 → length_in octets ≤ length octets
    → WhyNoList e (slice_range octets 20 (length_in octets)) → WhyNot e octets
why_not Outside octets least most there none = λ p h. none p.attributes h.attributes
why_not TooMany octets least most there many = (
  record { code = slice_index octets 0; id = slice_index octets 1; authenticator = slice_range octets 4 20; attributes = many.0 },
  record { code = refl; id = refl; at_least = least; at_most = most; is_there = there; authenticator = refl; attributes = many.1 },
  many.2,
)

abbrev Answer : List ℕ → Result Radius ReadError → Type 0
Answer octets r = MatchResult r (λ v. IsRadius (whole v) octets) (λ e. WhyNot e octets)

abbrev IsFew : Result Radius ReadError → Type 0
IsFew r = IfOk r (λ v. length v.attributes.items ≤ 64)

pub only_answer : (octets : List ℕ) (r : Result Radius ReadError) → Answer octets r → (p : Packet) → IsRadius p octets → length p.attributes ≤ 64 → IsOkAnd r (λ v. whole v ≡ p)
only_answer octets (Ok v) h p is few = one_packet (whole v) p octets h is
only_answer octets (Err Outside) h p is few = absurd (h p is)
only_answer octets (Err TooMany) h p is few = absurd (omega (arith, few, h.2, ap (λ (q : Packet). length q.attributes) (one_packet h.0 p octets h.1 is)))

pub outside_iff : (octets : List ℕ) (r : Result Radius ReadError) → Answer octets r → (r ≡ Err Outside) ↔ ((p : Packet) → IsRadius p octets → ⊥)
outside_iff octets (Ok v) h = (λ e. absurd cc, λ none. absurd (none (whole v) h))
outside_iff octets (Err Outside) h = (λ _. h, λ _. refl)
outside_iff octets (Err TooMany) h = (λ e. absurd cc, λ none. absurd (none h.0 h.1))

pub too_many_iff : (octets : List ℕ) (r : Result Radius ReadError) → Answer octets r → IsFew r → (r ≡ Err TooMany) ↔ ((p : Packet) × IsRadius p octets × (64 < length p.attributes))
too_many_iff octets (Ok v) h few = (
  λ e. absurd cc,
  λ w.
      let same : length w.0.attributes ≡ length (fields v.attributes.items) = ap (λ (q : Packet). length q.attributes) (one_packet w.0 (whole v) octets w.1 h) in
      absurd (omega (arith, few, w.2, same, length-fields v.attributes.items)),
)
too_many_iff octets (Err Outside) h few = (λ e. absurd cc, λ w. absurd (h w.0 w.1))
too_many_iff octets (Err TooMany) h few = (λ _. h, λ _. refl)

-- an error that is handed on
pub handed_on : (octets : List ℕ) (r : Result Radius ReadError) (e : ReadError) → IsErrAnd r (λ x. x ≡ e) → WhyNot e octets → Answer octets r
handed_on octets (Ok v) e h w = absurd h
handed_on octets (Err x) e h w = subst (λ (y : ReadError). WhyNot y octets) (sym h) w
