-- Why a tunnel is refused, by RFC 2661 sections 4.4.2, 5.1.1 and 7.2.1: a list of cases, of which the first that holds counts.
use Rattle.std.specs.Prelude.{ℕ, Bool, true, false, ◌==◌, ◌&&◌, ◌||◌, not, bytes_eq, List, [], ◌∷◌, ◌++◌, Option, Some, None, is_some, is_none}
use Rattle.md5.specs.Md5.{md5}
use Rattle.bng_l2tp_wire.specs.Avps.{L2tpAvp}
use Rattle.bng_l2tp_wire.specs.declared.kind.TheConstants.{PROTOCOL_VERSION, CHALLENGE, CHALLENGE_RESPONSE}
use Rattle.bng_l2tp_wire.specs.declared.message.TheConstants.{SCCRQ, SCCCN}
use Rattle.bng_l2tp_tunnel.specs.declared.refusal.TunnelRefusal.{TunnelRefusal}
use Rattle.bng_l2tp_tunnel.specs.declared.refusal.TunnelRefusal.TheVariants.{NotConfigured, WrongVersion, UnknownAvp, WrongAvp, NotAuthorized, Unexpected, NoNumber}
use Rattle.bng_l2tp_wire.specs.Values.{value_of, message_type, has_unreadable}
use Rattle.bng_l2tp_wire.specs.Judge.{is_type, has_unknown, Case, if_so, first_of}
use Rattle.bng_l2tp_tunnel.specs.Messages.{is_of_call, is_taken, lacks_needed}
use Rattle.bng_l2tp_tunnel.specs.TunnelState.{TunnelState}

-- Version 1 and Revision 0 (section 4.4.3)
abbrev pub version : List ℕ
version = 1 ∷ 0 ∷ []

abbrev pub is_other_than : List ℕ → Option (List ℕ) → Bool
is_other_than wanted None = false
is_other_than wanted (Some value) = not (bytes_eq value wanted)

-- a Protocol Version is there, and it is not 1.0
abbrev pub has_other_version : Option (List ℕ) → List L2tpAvp → Bool
has_other_version secret avps = is_other_than version (value_of secret PROTOCOL_VERSION avps)

-- the answer to a Challenge in a message of this type (section 4.4.3, as CHAP's of RFC 1994 section 4.1 with the type for its Identifier)
abbrev pub challenge_response : (type : ℕ) (secret challenge : List ℕ) → List ℕ
challenge_response type secret challenge = md5 (type ∷ secret ++ challenge)

abbrev pub is_value : List ℕ → Option (List ℕ) → Bool
is_value wanted None = false
is_value wanted (Some value) = bytes_eq value wanted

-- the answer that a message of this type must have where the tunnel has a secret, and so sent a Challenge
abbrev pub has_answer : ℕ → Option (List ℕ) → List ℕ → List L2tpAvp → Bool
has_answer type None challenge avps = true
has_answer type (Some secret) challenge avps =
    is_value (challenge_response type secret challenge) (value_of (Some secret) CHALLENGE_RESPONSE avps)

-- a Challenge is there, and no secret to answer it with
abbrev pub is_asked_in_vain : Option (List ℕ) → List L2tpAvp → Bool
is_asked_in_vain secret avps = is_some (value_of secret CHALLENGE avps) && is_none secret

-- an SCCRQ asks for an answer that cannot be made, or an SCCCN has not the right one
abbrev pub fails_challenge : Option (List ℕ) → List ℕ → Option ℕ → List L2tpAvp → Bool
fails_challenge secret challenge type avps =
    is_type type SCCRQ && is_asked_in_vain secret avps || is_type type SCCCN && not (has_answer SCCCN secret challenge avps)

-- What a call's message says is looked at by its call alone.
abbrev pub is_of_wrong_version : Option (List ℕ) → Option ℕ → List L2tpAvp → Bool
is_of_wrong_version secret type avps = not (is_of_call type) && has_other_version secret avps

abbrev pub has_unknown_avp : Option ℕ → List L2tpAvp → Bool
has_unknown_avp type avps = not (is_of_call type) && has_unknown avps

abbrev pub has_wrong_avp : Option (List ℕ) → Option ℕ → List L2tpAvp → Bool
has_wrong_avp secret type avps = not (is_of_call type) && (lacks_needed secret type avps || has_unreadable secret avps)

-- an SCCRQ for which no tunnel number may be taken
abbrev pub lacks_number : ℕ → Option ℕ → Bool
lacks_number number type = is_type type SCCRQ && number == 0

-- the cases of a message of this type with these AVPs
abbrev pub cases : TunnelState → Option ℕ → List L2tpAvp → List (Case TunnelRefusal)
cases s type avps =
    if_so (not s.known) NotConfigured
    ∷ if_so (is_of_wrong_version s.secret type avps) WrongVersion
    ∷ if_so (has_unknown_avp type avps) UnknownAvp
    ∷ if_so (has_wrong_avp s.secret type avps) WrongAvp
    ∷ if_so (fails_challenge s.secret s.challenge type avps) NotAuthorized
    ∷ if_so (not (is_taken s.phase type)) Unexpected
    ∷ if_so (lacks_number s.number type) NoNumber
    ∷ []

-- why the message is refused, where it is
unfoldable pub refusal_of : TunnelState → List L2tpAvp → Option TunnelRefusal
refusal_of s avps = first_of (cases s (message_type avps) avps)
