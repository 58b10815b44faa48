-- The control messages that the gateway sends, by RFC 2661 sections 4.4 and 6. Numbers have their most significant octet first.
use Rattle.std.specs.Prelude.{ℕ, List, [], ◌∷◌, ◌++◌, Option, Some, None}
use Rattle.bng_l2tp_wire.specs.Avps.{L2tpAvp}
use Rattle.bng_l2tp_wire.specs.Messages.{ControlMessage}
use Rattle.bng_l2tp_wire.specs.declared.kind.TheConstants.{MESSAGE_TYPE, RESULT_CODE, PROTOCOL_VERSION, FRAMING_CAPABILITIES, HOST_NAME, ASSIGNED_TUNNEL_ID, RECEIVE_WINDOW_SIZE, CHALLENGE, CHALLENGE_RESPONSE}
use Rattle.bng_l2tp_wire.specs.declared.message.TheConstants.{SCCRP, STOP_CCN, HELLO}
use Rattle.bng_l2tp_wire.specs.declared.result_code.ResultCode.{ResultCode}
use Rattle.bng_l2tp_tunnel.specs.declared.refusal.TunnelRefusal.{TunnelRefusal}
use Rattle.bng_l2tp_tunnel.specs.declared.refusal.TunnelRefusal.TheVariants.{NotConfigured, WrongVersion, UnknownAvp, WrongAvp, NotAuthorized, Unexpected, NoNumber}
use Rattle.bng_l2tp_tunnel.specs.Refusals.{version, challenge_response}
use Rattle.bng_l2tp_wire.specs.Spelling.{avp, number_avp, unsent, result_only, general_error, code_octets}

-- both synchronous and asynchronous framing (section 4.4.3)
abbrev pub both_framings : List ℕ
both_framings = 0 ∷ 0 ∷ 0 ∷ 3 ∷ []

-- how many messages the gateway takes before it acknowledges one (section 4.4.3)
abbrev pub own_window : ℕ
own_window = 8

-- the gateway's Challenge, where there is a secret
abbrev pub challenge_avps : Option (List ℕ) → List ℕ → List L2tpAvp
challenge_avps None challenge = []
challenge_avps (Some secret) challenge = avp CHALLENGE challenge ∷ []

abbrev pub answer_avps : Option (List ℕ) → List L2tpAvp
answer_avps None = []
answer_avps (Some response) = avp CHALLENGE_RESPONSE response ∷ []

-- the answer to the peer's Challenge in a message of this type, where it sent one
abbrev pub response_avps : ℕ → Option (List ℕ) → Option (List ℕ) → List L2tpAvp
response_avps type None asked = answer_avps None
response_avps type (Some secret) None = answer_avps None
response_avps type (Some secret) (Some asked) = answer_avps (Some (challenge_response type secret asked))

-- the AVPs that a message of this type begins with by which a tunnel is asked for or granted (sections 6.1 and 6.2)
abbrev pub front : (type : ℕ) (name : List ℕ) (number : ℕ) → List L2tpAvp
front type name number =
    number_avp MESSAGE_TYPE type
    ∷ avp PROTOCOL_VERSION version
    ∷ avp FRAMING_CAPABILITIES both_framings
    ∷ avp HOST_NAME name
    ∷ number_avp ASSIGNED_TUNNEL_ID number
    ∷ number_avp RECEIVE_WINDOW_SIZE own_window
    ∷ []

-- the Start-Control-Connection-Reply of a tunnel with this number, to a peer that sent this Challenge, if one (section 6.2)
abbrev pub sccrp : (name : List ℕ) (number : ℕ) (secret : Option (List ℕ)) (challenge : List ℕ) (asked : Option (List ℕ)) → ControlMessage
sccrp name number secret challenge asked =
    unsent 0 (front SCCRP name number ++ challenge_avps secret challenge ++ response_avps SCCRP secret asked)

-- The Result Codes of a StopCCN (section 4.4.2): 4 the requester is not authorized, 5 its protocol version is not supported, 2 with 8 an AVP that
-- must be known is not, 2 with 3 a field is out of range, 7 an error of the state machine, 2 with 4 no resources are left
abbrev pub code_of : TunnelRefusal → ResultCode
code_of NotConfigured = result_only 4
code_of WrongVersion = result_only 5
code_of UnknownAvp = general_error 8
code_of WrongAvp = general_error 3
code_of NotAuthorized = result_only 4
code_of Unexpected = result_only 7
code_of NoNumber = general_error 4

-- the requester is shut down
abbrev pub shut_down : ResultCode
shut_down = result_only 6

-- a Stop-Control-Connection-Notification of the tunnel with this number (section 6.4)
abbrev pub stop_avps : ℕ → ResultCode → List L2tpAvp
stop_avps number code =
    number_avp MESSAGE_TYPE STOP_CCN ∷ number_avp ASSIGNED_TUNNEL_ID number ∷ avp RESULT_CODE (code_octets code) ∷ []

abbrev pub stop_ccn : ℕ → ResultCode → ControlMessage
stop_ccn number code = unsent 0 (stop_avps number code)

-- section 6.5
abbrev pub hello : ControlMessage
hello = unsent 0 (number_avp MESSAGE_TYPE HELLO ∷ [])
