-- What holds of a message that is not refused.
use Rattle.std.proofs.Common.{◌≢◌, ◌≡◌, ℕ, ◌==◌, true, false, ◌||◌, not, Option, None, Some, List, refl, subst}
use Rattle.std.specs.Prelude.{IsSome}
use Rattle.std.proofs.lemmas.Bool.{eq-eqb, not-false, or_parts}
use Rattle.bng_l2tp_wire.specs.Avps.{L2tpAvp}
use Rattle.bng_l2tp_wire.specs.Messages.{ControlMessage}
use Rattle.bng_l2tp_wire.specs.declared.kind.TheConstants.{PROTOCOL_VERSION, FRAMING_CAPABILITIES, HOST_NAME, ASSIGNED_TUNNEL_ID}
use Rattle.bng_l2tp_wire.specs.declared.message.TheConstants.{SCCRQ, SCCCN}
use Rattle.bng_l2tp_wire.proofs.Judging.{type_is, first_none, number_there}
use Rattle.bng_l2tp_tunnel.specs.declared.phase.TunnelPhase.{TunnelPhase}
use Rattle.bng_l2tp_tunnel.specs.declared.phase.TunnelPhase.TheVariants.{Idle, Replied, Established, Cleared}
use Rattle.bng_l2tp_wire.specs.Values.{value_of, message_type, assigned_tunnel, has_unreadable}
use Rattle.bng_l2tp_wire.specs.Judge.{is_type, is_wrong}
use Rattle.bng_l2tp_tunnel.specs.Messages.{is_taken, lacks_needed}
use Rattle.bng_l2tp_tunnel.specs.TunnelState.{TunnelState}
use Rattle.bng_l2tp_tunnel.specs.Refusals.{is_of_wrong_version, has_unknown_avp, has_wrong_avp, has_answer, fails_challenge, lacks_number, refusal_of}
use Rattle.bng_l2tp_tunnel.specs.Sound.{is_replied, IsAnswerOf}

-- no case holds
pub record IsPassed (s : TunnelState) (avps : List L2tpAvp) : Type 0 where
  pub known : s.known ≡ true
  pub wrong : has_wrong_avp s.secret (message_type avps) avps ≡ false
  pub authorized : fails_challenge s.secret s.challenge (message_type avps) avps ≡ false
  pub taken : is_taken s.phase (message_type avps) ≡ true
  pub numbered : lacks_number s.number (message_type avps) ≡ false

pub passed : (s : TunnelState) (avps : List L2tpAvp) → refusal_of s avps ≡ None → IsPassed s avps
unfolding refusal_of
passed s avps e =
    let a = first_none (not s.known) _ _ e in
    let b = first_none (is_of_wrong_version s.secret (message_type avps) avps) _ _ a.1 in
    let c = first_none (has_unknown_avp (message_type avps) avps) _ _ b.1 in
    let d = first_none (has_wrong_avp s.secret (message_type avps) avps) _ _ c.1 in
    let f = first_none (fails_challenge s.secret s.challenge (message_type avps) avps) _ _ d.1 in
    let g = first_none (not (is_taken s.phase (message_type avps))) _ _ f.1 in
    let h = first_none (lacks_number s.number (message_type avps)) _ _ g.1 in
    record {
      known = not-false s.known a.0;
      wrong = d.0;
      authorized = f.0;
      taken = not-false (is_taken s.phase (message_type avps)) g.0;
      numbered = h.0;
    }

-- an SCCCN is taken after an SCCRP alone
pub replied_if : (p : TunnelPhase) (type : Option ℕ) → is_type type SCCCN ≡ true → is_taken p type ≡ true → is_replied p ≡ true
replied_if p type e t =
    by_phase p (subst (λ (x : Option ℕ). is_taken p x ≡ true) (type_is type SCCCN e) t)
  where
    by_phase : (q : TunnelPhase) → is_taken q (Some SCCCN) ≡ true → is_replied q ≡ true
    by_phase Idle t = absurd cc
    by_phase Replied t = refl
    by_phase Established t = absurd cc
    by_phase Cleared t = absurd cc

-- an SCCRQ that is not refused has the peer's tunnel
pub has_tunnel : (s : TunnelState) (avps : List L2tpAvp) → is_type (message_type avps) SCCRQ ≡ true → has_wrong_avp s.secret (message_type avps) avps ≡ false
    → IsSome (assigned_tunnel s.secret avps)
has_tunnel s avps e w =
    let all : (lacks_needed s.secret (Some SCCRQ) avps || has_unreadable s.secret avps) ≡ false = subst (λ (x : Option ℕ). has_wrong_avp s.secret x avps ≡ false) (type_is (message_type avps) SCCRQ e) w in
    let needed : (is_wrong PROTOCOL_VERSION (value_of s.secret PROTOCOL_VERSION avps) || (is_wrong FRAMING_CAPABILITIES (value_of s.secret FRAMING_CAPABILITIES avps) || (is_wrong HOST_NAME (value_of s.secret HOST_NAME avps) || (is_wrong ASSIGNED_TUNNEL_ID (value_of s.secret ASSIGNED_TUNNEL_ID avps) || false)))) ≡ false =
    (or_parts _ false (or_parts _ _ all).0).0 in
    let framing = (or_parts (is_wrong PROTOCOL_VERSION (value_of s.secret PROTOCOL_VERSION avps)) _ needed).1 in
    let name = (or_parts (is_wrong FRAMING_CAPABILITIES (value_of s.secret FRAMING_CAPABILITIES avps)) _ framing).1 in
    let tunnel = (or_parts (is_wrong HOST_NAME (value_of s.secret HOST_NAME avps)) _ name).1 in
    number_there ASSIGNED_TUNNEL_ID (value_of s.secret ASSIGNED_TUNNEL_ID avps) (λ (octets : List ℕ). refl) (or_parts (is_wrong ASSIGNED_TUNNEL_ID (value_of s.secret ASSIGNED_TUNNEL_ID avps)) false tunnel).0

-- an SCCRQ that is not refused has a number to give
pub has_number : (s : TunnelState) (avps : List L2tpAvp) → is_type (message_type avps) SCCRQ ≡ true → lacks_number s.number (message_type avps) ≡ false → s.number ≢ 0
has_number s avps e l = λ zero_is.
    let lacks : (s.number == 0) ≡ false = subst (λ (x : Option ℕ). lacks_number s.number x ≡ false) (type_is (message_type avps) SCCRQ e) l in
    absurd (let yes = eq-eqb s.number 0 zero_is in cc)

-- an SCCCN that is not refused answers the Challenge
pub answers : (s : TunnelState) (m : ControlMessage) → is_type (message_type m.avps) SCCCN ≡ true → fails_challenge s.secret s.challenge (message_type m.avps) m.avps ≡ false → IsAnswerOf s m
answers s m e f = record {
  type = type_is (message_type m.avps) SCCCN e;
  answer = not-false (has_answer SCCCN s.secret s.challenge m.avps) (subst (λ (x : Option ℕ). fails_challenge s.secret s.challenge x m.avps ≡ false) (type_is (message_type m.avps) SCCCN e) f);
}
