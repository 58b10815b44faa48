-- Why a message is refused, by RFC 2661 sections 4.4.2, 5.1.1 and 7.2.1: lists of cases, of which the first that holds counts.
use Rattle.std.specs.Prelude.{ℕ, Bool, ◌&&◌, ◌||◌, not, if◌then◌else◌, List, [], ◌∷◌, Option, Some, None}
use Rattle.bng_l2tp_wire.specs.Avps.{L2tpAvp}
use Rattle.bng_l2tp_tunnel.specs.declared.refusal.TunnelRefusal.{TunnelRefusal}
use Rattle.bng_l2tp_tunnel.specs.declared.refusal.TunnelRefusal.TheVariants.{WrongVersion, UnknownAvp, WrongAvp, NotAuthorized, Unexpected}
use Rattle.bng_l2tp_wire.specs.Values.{message_type, has_unreadable}
use Rattle.bng_l2tp_wire.specs.Judge.{is_type, has_unknown, Case, if_so, first_of}
use Rattle.bng_l2tp_tunnel.specs.Refusals.{has_other_version, has_answer, is_asked_in_vain}
use Rattle.bng_l2tp_call.specs.declared.refusal.CallRefusal.{CallRefusal as CallRefusal}
use Rattle.bng_l2tp_call.specs.declared.refusal.CallRefusal.TheVariants.{UnknownAvp as UnknownAvpOfCall, WrongAvp as WrongAvpOfCall}
use Rattle.bng_l2tp_wire.specs.declared.message.TheConstants.{SCCRP}
use Rattle.bng_lac.specs.LacState.{LacState}
use Rattle.bng_lac.specs.Messages.{is_of_call, is_taken, lacks_needed}

-- an AVP that must be there is missing or of a wrong length, or a hidden one cannot be read
abbrev pub has_wrong_avp : Option (List ℕ) → Option ℕ → List L2tpAvp → Bool
has_wrong_avp secret type avps = lacks_needed secret type avps || has_unreadable secret avps

-- an SCCRP asks for an answer that cannot be made, or has not the right one
abbrev pub fails_challenge : Option (List ℕ) → List ℕ → Option ℕ → List L2tpAvp → Bool
fails_challenge secret challenge type avps =
    is_type type SCCRP && (is_asked_in_vain secret avps || not (has_answer SCCRP secret challenge avps))

-- The cases of a message of this type with these AVPs. What a call's message says is looked at by its call alone.
abbrev pub cases : LacState → Option ℕ → List L2tpAvp → List (Case TunnelRefusal)
cases s type avps =
    if_so (not (is_of_call type) && has_other_version s.secret avps) WrongVersion
    ∷ if_so (not (is_of_call type) && has_unknown avps) UnknownAvp
    ∷ if_so (not (is_of_call type) && has_wrong_avp s.secret type avps) WrongAvp
    ∷ if_so (fails_challenge s.secret s.challenge type avps) NotAuthorized
    ∷ if_so (not (is_taken s.phase type)) Unexpected
    ∷ []

-- why the tunnel refuses the message, where it does
unfoldable pub refusal_of : LacState → List L2tpAvp → Option TunnelRefusal
refusal_of s avps = first_of (cases s (message_type avps) avps)

-- why a call that takes the message refuses it, where it does
unfoldable pub call_refusal_of : Option (List ℕ) → List L2tpAvp → Option CallRefusal
call_refusal_of secret avps =
    if has_unknown avps then Some UnknownAvpOfCall
    else (if has_wrong_avp secret (message_type avps) avps then Some WrongAvpOfCall
    else None)
