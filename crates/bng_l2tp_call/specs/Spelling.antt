-- The control messages of a call that the gateway sends, by RFC 2661 sections 4.4, 6.7 and 6.12. Numbers have their most significant octet
-- first.
use Rattle.std.specs.Prelude.{◌≡◌, ℕ, List, [], ◌∷◌}
use Rattle.bng_l2tp_wire.specs.Messages.{ControlMessage, control_text}
use Rattle.bng_l2tp_wire.specs.declared.result_code.ResultCode.{ResultCode}
use Rattle.bng_l2tp_call.specs.declared.refusal.CallRefusal.{CallRefusal}
use Rattle.bng_l2tp_call.specs.declared.refusal.CallRefusal.TheVariants.{UnknownAvp, WrongAvp, SequencingRequired, NoSlot}
use Rattle.bng_l2tp_wire.specs.declared.message.TheConstants.{ICRP, CDN}
use Rattle.bng_l2tp_wire.specs.declared.kind.TheConstants.{MESSAGE_TYPE, RESULT_CODE, ASSIGNED_SESSION_ID}
use Rattle.bng_l2tp_wire.specs.Spelling.{avp, number_avp, unsent, result_only, general_error, code_octets}

-- an Incoming-Call-Reply of the call with this number, for a session of the peer (section 6.7)
abbrev pub icrp : (session number : ℕ) → ControlMessage
icrp session number = unsent session (number_avp MESSAGE_TYPE ICRP ∷ number_avp ASSIGNED_SESSION_ID number ∷ [])

-- The Result Codes of a CDN that refuses a message (section 4.4.2): 2 with 8 an AVP that must be known is not, 2 with 3 a field is out of range,
-- 5 a facility is lacking for ever, 4 one is lacking for now
abbrev pub code_of : CallRefusal → ResultCode
code_of UnknownAvp = general_error 8
code_of WrongAvp = general_error 3
code_of SequencingRequired = result_only 5
code_of NoSlot = result_only 4

-- the call is ended for administrative reasons
abbrev pub administrative : ResultCode
administrative = result_only 3

-- a Call-Disconnect-Notify of the call with this number, 0 where none was made, for a session of the peer (section 6.12)
abbrev pub cdn : (session number : ℕ) → ResultCode → ControlMessage
cdn session number code =
    unsent session (number_avp MESSAGE_TYPE CDN ∷ number_avp ASSIGNED_SESSION_ID number ∷ avp RESULT_CODE (code_octets code) ∷ [])

-- what goes out is one ICRP
pub record TellsReply (outs : List (List ℕ)) : Type 0 where
  pub session : ℕ
  pub number : ℕ
  pub text : outs ≡ control_text (icrp session number) ∷ []

-- what goes out is one CDN with this Result Code
pub record TellsCode (code : ResultCode) (outs : List (List ℕ)) : Type 0 where
  pub session : ℕ
  pub number : ℕ
  pub text : outs ≡ control_text (cdn session number code) ∷ []
