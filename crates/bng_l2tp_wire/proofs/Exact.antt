-- When each answer of a reader comes, from what each answer says.
use Rattle.std.proofs.Common.{◌≡◌, ℕ, ◌<◌, ◌≤◌, List, length, Result, Ok, Err, refl, sym, ap, subst, ◌∙◌, arith}
use Rattle.std.specs.Prelude.{◌↔◌, MatchResult, IfOk, IsOkAnd, IsErrAnd, slice_index, slice_range}
use Rattle.byteorder.specs.Endian.{big_from}
use Rattle.bng_base.proofs.PieceLaws.{one_list}
use Rattle.bng_base.specs.declared.codec.ReadError.{ReadError}
use Rattle.bng_base.specs.declared.codec.ReadError.TheVariants.{Outside, TooMany}
use Rattle.bng_l2tp_wire.specs.declared.view.Control.{Control}
use Rattle.bng_l2tp_wire.specs.Avps.{L2tpAvp, AvpFits, avp_text}
use Rattle.bng_l2tp_wire.specs.Messages.{ControlMessage, DataMessage, HasControlBits, IsControl, IsData, version_of}
use Rattle.bng_l2tp_wire.specs.Reading.{WhyNoAvps, WhyNoControl}
use Rattle.bng_l2tp_wire.specs.View.{avps_of, control_of}
use Rattle.bng_l2tp_wire.proofs.AvpLaws.{is_code, length-avps_of}

-- octets begin with one control message
pub one_control : (p q : ControlMessage) (bytes : List ℕ) → IsControl p bytes → IsControl q bytes → p ≡ q
one_control p q bytes a b =
    let made : ℕ → ℕ → ℕ → ℕ → List L2tpAvp → ControlMessage = λ t s n r vs. record { tunnel = t; session = s; ns = n; nr = r; avps = vs } in
    ap (λ (t : ℕ). made t p.session p.ns p.nr p.avps) (a.tunnel ∙ sym b.tunnel)
    ∙ ap (λ (s : ℕ). made q.tunnel s p.ns p.nr p.avps) (a.session ∙ sym b.session)
    ∙ ap (λ (n : ℕ). made q.tunnel q.session n p.nr p.avps) (a.ns ∙ sym b.ns)
    ∙ ap (λ (r : ℕ). made q.tunnel q.session q.ns r p.avps) (a.nr ∙ sym b.nr)
    ∙ ap (made q.tunnel q.session q.ns q.nr) (one_list AvpFits avp_text 64 is_code p.avps q.avps (slice_range bytes 12 (big_from 2 2 bytes)) a.avps b.avps)

-- octets begin with one data message
pub one_data : (p q : DataMessage) (bytes : List ℕ) → IsData p bytes → IsData q bytes → p ≡ q
one_data p q bytes a b =
    let made : ℕ → ℕ → List ℕ → DataMessage = λ t s o. record { tunnel = t; session = s; ppp = o } in
    ap (λ (t : ℕ). made t p.session p.ppp) (a.tunnel ∙ sym b.tunnel)
    ∙ ap (λ (s : ℕ). made q.tunnel s p.ppp) (a.session ∙ sym b.session)
    ∙ ap (made q.tunnel q.session) (a.payload ∙ sym b.payload)

-- AVPs that are none are no message's
pub why_not : (e : ReadError) (bytes : List ℕ) → HasControlBits (slice_index bytes 0) → version_of (slice_index bytes 1) ≡ 2 → 12 ≤ big_from 2 2 bytes → big_from 2 2 bytes ≤ length bytes
    → WhyNoAvps e (slice_range bytes 12 (big_from 2 2 bytes)) → WhyNoControl e bytes
why_not Outside bytes bits version least there none = λ m h. none m.avps h.avps
why_not TooMany bytes bits version least there many = (
  record { tunnel = big_from 4 2 bytes; session = big_from 6 2 bytes; ns = big_from 8 2 bytes; nr = big_from 10 2 bytes; avps = many.0 },
  record { bits = bits; version = version; at_least = least; is_there = there; tunnel = refl; session = refl; ns = refl; nr = refl; avps = many.1 },
  many.2,
)

abbrev Answer : List ℕ → Result Control ReadError → Type 0
Answer bytes r = MatchResult r (λ v. IsControl (control_of v) bytes) (λ e. WhyNoControl e bytes)

abbrev IsFew : Result Control ReadError → Type 0
IsFew r = IfOk r (λ v. length v.avps.items ≤ 64)

pub only_control : (bytes : List ℕ) (r : Result Control ReadError) → Answer bytes r → (m : ControlMessage) → IsControl m bytes → length m.avps ≤ 64 → IsOkAnd r (λ v. control_of v ≡ m)
only_control bytes (Ok v) h m is few = one_control (control_of v) m bytes h is
only_control bytes (Err Outside) h m is few = absurd (h m is)
only_control bytes (Err TooMany) h m is few = absurd (omega (arith, few, h.2, ap (λ (q : ControlMessage). length q.avps) (one_control h.0 m bytes h.1 is)))

pub outside_iff : (bytes : List ℕ) (r : Result Control ReadError) → Answer bytes r → (r ≡ Err Outside) ↔ ((m : ControlMessage) → IsControl m bytes → ⊥)
outside_iff bytes (Ok v) h = (λ e. absurd cc, λ none. absurd (none (control_of v) h))
outside_iff bytes (Err Outside) h = (λ _. h, λ _. refl)
outside_iff bytes (Err TooMany) h = (λ e. absurd cc, λ none. absurd (none h.0 h.1))

pub too_many_iff : (bytes : List ℕ) (r : Result Control ReadError) → Answer bytes r → IsFew r → (r ≡ Err TooMany) ↔ ((m : ControlMessage) × IsControl m bytes × (64 < length m.avps))
too_many_iff bytes (Ok v) h few = (
  λ e. absurd cc,
  λ w.
      let same : length w.0.avps ≡ length (avps_of v.avps.items) = ap (λ (q : ControlMessage). length q.avps) (one_control w.0 (control_of v) bytes w.1 h) in
      absurd (omega (arith, few, w.2, same, length-avps_of v.avps.items)),
)
too_many_iff bytes (Err Outside) h few = (λ e. absurd cc, λ w. absurd (h w.0 w.1))
too_many_iff bytes (Err TooMany) h few = (λ _. h, λ _. refl)

-- an error that is handed on
pub handed_on : (bytes : List ℕ) (r : Result Control ReadError) (e : ReadError) → IsErrAnd r (λ x. x ≡ e) → WhyNoControl e bytes → Answer bytes r
handed_on bytes (Ok v) e h w = absurd h
handed_on bytes (Err x) e h w = subst (λ (y : ReadError). WhyNoControl y bytes) (sym h) w
