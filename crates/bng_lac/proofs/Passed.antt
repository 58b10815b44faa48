-- What holds of a tunnel's message that is not refused.
use Rattle.std.proofs.Common.{◌≡◌, ℕ, ◌==◌, ◌&&◌, ◌||◌, Bool, true, false, not, cond, Option, None, Some, IsSome, List, length, refl, ap, sym, subst}
use Rattle.std.proofs.lemmas.Bool.{eqb-true, not-false, or_parts, false≢true}
use Rattle.byteorder.specs.Endian.{big_from}
use Rattle.bng_l2tp_wire.specs.Avps.{L2tpAvp}
use Rattle.bng_l2tp_wire.specs.Messages.{ControlMessage}
use Rattle.bng_l2tp_tunnel.specs.declared.refusal.TunnelRefusal.{TunnelRefusal}
use Rattle.bng_l2tp_wire.specs.Values.{number_in, value_of, message_type, assigned_tunnel, has_unreadable}
use Rattle.bng_l2tp_wire.specs.Judge.{is_type, is_wrong, has_unknown}
use Rattle.bng_l2tp_tunnel.specs.Refusals.{has_other_version, is_asked_in_vain, has_answer}
use Rattle.bng_lac.specs.declared.phase.LacPhase.{LacPhase}
use Rattle.bng_lac.specs.declared.phase.LacPhase.TheVariants.{Idle, WaitReply, Established}
use Rattle.bng_l2tp_wire.specs.declared.message.TheConstants.{SCCRP}
use Rattle.bng_l2tp_wire.specs.declared.kind.TheConstants.{PROTOCOL_VERSION, FRAMING_CAPABILITIES, HOST_NAME, ASSIGNED_TUNNEL_ID}
use Rattle.bng_lac.specs.LacState.{LacState, is_waiting}
use Rattle.bng_lac.specs.Messages.{is_of_call, is_taken, lacks_needed}
use Rattle.bng_lac.specs.Refusals.{has_wrong_avp, fails_challenge, refusal_of}
use Rattle.bng_lac.specs.Sound.{IsAnswerOf}

first_none : (b : Bool) (r : TunnelRefusal) (rest : Option TunnelRefusal) → cond b (Some r) rest ≡ None → (b ≡ false) × (rest ≡ None)
first_none true r rest e = absurd cc
first_none false r rest e = (refl, e)

-- no case holds
pub record IsPassed (s : LacState) (avps : List L2tpAvp) : Type 0 where
  pub wrong : (not (is_of_call (message_type avps)) && has_wrong_avp s.secret (message_type avps) avps) ≡ false
  pub authorized : fails_challenge s.secret s.challenge (message_type avps) avps ≡ false
  pub taken : is_taken s.phase (message_type avps) ≡ true

pub passed : (s : LacState) (avps : List L2tpAvp) → refusal_of s avps ≡ None → IsPassed s avps
unfolding refusal_of
passed s avps e =
    let a = first_none (not (is_of_call (message_type avps)) && has_other_version s.secret avps) _ _ e in
    let b = first_none (not (is_of_call (message_type avps)) && has_unknown avps) _ _ a.1 in
    let c = first_none (not (is_of_call (message_type avps)) && has_wrong_avp s.secret (message_type avps) avps) _ _ b.1 in
    let d = first_none (fails_challenge s.secret s.challenge (message_type avps) avps) _ _ c.1 in
    let f = first_none (not (is_taken s.phase (message_type avps))) _ _ d.1 in
    record { wrong = c.0; authorized = d.0; taken = not-false (is_taken s.phase (message_type avps)) f.0 }

pub type_is : (type : Option ℕ) (wanted : ℕ) → is_type type wanted ≡ true → type ≡ Some wanted
type_is None wanted e = absurd (false≢true e)
type_is (Some type) wanted e = ap (λ (n : ℕ). Some n) (eqb-true type wanted e)

-- an SCCRP is taken while the tunnel waits for one alone
pub waiting_if : (p : LacPhase) (type : Option ℕ) → is_type type SCCRP ≡ true → is_taken p type ≡ true → is_waiting p ≡ true
waiting_if p type e t =
    by_phase p (subst (λ (x : Option ℕ). is_taken p x ≡ true) (type_is type SCCRP e) t)
  where
    by_phase : (q : LacPhase) → is_taken q (Some SCCRP) ≡ true → is_waiting q ≡ true
    by_phase Idle t = absurd (false≢true t)
    by_phase WaitReply t = refl
    by_phase Established t = absurd (false≢true t)

some_if : (n : ℕ) (b : Bool) → b ≡ true → IsSome {T = ℕ} (cond b (Some n) None)
some_if n true e = refl
some_if n false e = absurd (false≢true e)

number_there : (value : Option (List ℕ)) → is_wrong ASSIGNED_TUNNEL_ID value ≡ false → IsSome (number_in value)
number_there None e = absurd (false≢true (sym e))
number_there (Some value) e = some_if (big_from 0 2 value) (length value == 2) (not-false (length value == 2) e)

-- an SCCRP that is not refused has the server's tunnel
pub has_tunnel : (s : LacState) (avps : List L2tpAvp) → is_type (message_type avps) SCCRP ≡ true
    → (not (is_of_call (message_type avps)) && has_wrong_avp s.secret (message_type avps) avps) ≡ false → IsSome (assigned_tunnel s.secret avps)
has_tunnel s avps e w =
    let all : (lacks_needed s.secret (Some SCCRP) avps || has_unreadable s.secret avps) ≡ false =
    subst (λ (x : Option ℕ). (not (is_of_call x) && has_wrong_avp s.secret x avps) ≡ false) (type_is (message_type avps) SCCRP e) w in
    let version = is_wrong PROTOCOL_VERSION (value_of s.secret PROTOCOL_VERSION avps) in
    let framing = is_wrong FRAMING_CAPABILITIES (value_of s.secret FRAMING_CAPABILITIES avps) in
    let name = is_wrong HOST_NAME (value_of s.secret HOST_NAME avps) in
    let tunnel = is_wrong ASSIGNED_TUNNEL_ID (value_of s.secret ASSIGNED_TUNNEL_ID avps) in
    let needed : ((version || (framing || (name || (tunnel || false)))) || false) ≡ false = (or_parts (lacks_needed s.secret (Some SCCRP) avps) (has_unreadable s.secret avps) all).0 in
    let a = (or_parts (version || (framing || (name || (tunnel || false)))) false needed).0 in
    let b = (or_parts version (framing || (name || (tunnel || false))) a).1 in
    let c = (or_parts framing (name || (tunnel || false)) b).1 in
    let d = (or_parts name (tunnel || false) c).1 in
    number_there (value_of s.secret ASSIGNED_TUNNEL_ID avps) (or_parts tunnel false d).0

-- an SCCRP that is not refused answers the Challenge
pub answers : (s : LacState) (m : ControlMessage) → is_type (message_type m.avps) SCCRP ≡ true → fails_challenge s.secret s.challenge (message_type m.avps) m.avps ≡ false → IsAnswerOf s m
answers s m e f =
    let fails : (is_asked_in_vain s.secret m.avps || not (has_answer SCCRP s.secret s.challenge m.avps)) ≡ false =
    subst (λ (x : Option ℕ). fails_challenge s.secret s.challenge x m.avps ≡ false) (type_is (message_type m.avps) SCCRP e) f in
    record {
      type = type_is (message_type m.avps) SCCRP e;
      answer = not-false (has_answer SCCRP s.secret s.challenge m.avps) (or_parts (is_asked_in_vain s.secret m.avps) (not (has_answer SCCRP s.secret s.challenge m.avps)) fails).1;
    }
