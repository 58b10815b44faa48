-- What the calls of a `Call` do, by RFC 2661 sections 6.6 to 6.14 and 7.4.2.
use Rattle.std.specs.Prelude.{◌≡◌, ℕ, true, false, ◌⊎◌, if◌then◌else◌, List, [], ◌∷◌, Some, None, unwrap_or}
use Rattle.bng_l2tp_wire.specs.Avps.{L2tpAvp}
use Rattle.bng_l2tp_wire.specs.Messages.{ControlMessage, control_text}
use Rattle.bng_l2tp_call.specs.declared.phase.CallPhase.TheVariants.{WaitConnect, Established, Ended}
use Rattle.bng_l2tp_call.specs.declared.refusal.CallRefusal.{CallRefusal}
use Rattle.bng_l2tp_wire.specs.declared.message.TheConstants.{ICRQ, ICCN, CDN, WEN, SLI}
use Rattle.bng_l2tp_wire.specs.Values.{message_type, assigned_session}
use Rattle.bng_l2tp_wire.specs.View.{Said, sends}
use Rattle.bng_l2tp_call.specs.Messages.{is_taken}
use Rattle.bng_l2tp_call.specs.CallState.{CallState, is_idle, stands}
use Rattle.bng_l2tp_call.specs.Refusals.{refusal_of, IsRefused}
use Rattle.bng_l2tp_call.specs.Spelling.{icrp, cdn, code_of, administrative}

-- what a call gives, and the call after it
pub record Step : Type 0 where
  pub said : Said
  pub after : CallState

abbrev pub nothing : CallState → Step
nothing s = record { said = sends []; after = s }

abbrev pub tells : CallState → ControlMessage → Step
tells s message = record { said = sends (control_text message ∷ []); after = s }

-- the call ends in this step, or none is made
abbrev pub ends : Step → Step
ends step = record { said = record step.said { ended = true }; after = record step.after { phase = Ended } }

-- the session of the peer that messages go to, 0 where it is not known
abbrev pub to_peer : CallState → ℕ
to_peer s = unwrap_or s.peer_number 0

-- the number of the call, 0 where none was made
abbrev pub number_of : CallState → ℕ
number_of s = if stands s.phase then s.session else 0

-- The peer's session is that of the ICRQ, which is the first message that is taken.
abbrev pub addressed : CallState → List L2tpAvp → CallState
addressed s avps = if is_idle s.phase then record s { peer_number = assigned_session s.secret avps } else s

-- a CDN that refuses the message, which ends the call
abbrev pub refuses : CallState → List L2tpAvp → CallRefusal → Step
refuses s avps cause =
    ends (tells (addressed s avps) (cdn (to_peer (addressed s avps)) (number_of s) (code_of cause)))

-- an ICRP, which makes the call
abbrev pub replies : CallState → List L2tpAvp → Step
replies s avps =
    tells (record (addressed s avps) { phase = WaitConnect }) (icrp (to_peer (addressed s avps)) s.session)

-- the call comes to be established
abbrev pub opens : CallState → Step
opens s = record { said = record (sends []) { opened = true }; after = record s { phase = Established } }

-- the message is taken, has this type, and is not refused
pub record IsAccepted (s : CallState) (m : ControlMessage) (type : ℕ) : Type 0 where
  pub taken : is_taken s.phase (message_type m.avps) ≡ true
  pub type_is : message_type m.avps ≡ Some type
  pub right : refusal_of s m.avps ≡ None

-- the message is a CDN, or it is refused
abbrev pub IsLast : CallState → ControlMessage → Type 0
IsLast s m = IsAccepted s m CDN ⊎ ((cause : CallRefusal) × IsRefused s m cause)

-- What a message does to a call: the table, with a case for each row, for each refusal and for what is not taken.
pub data Hears (s : CallState) (m : ControlMessage) : Step → Type 0 where
  -- a message that no row of the table takes in this phase changes nothing
  passed : is_taken s.phase (message_type m.avps) ≡ false → Hears s m (nothing s)
  refused : {cause : CallRefusal} → IsRefused s m cause → Hears s m (refuses s m.avps cause)
  requested : IsAccepted s m ICRQ → Hears s m (replies s m.avps)
  connected : IsAccepted s m ICCN → Hears s m (opens s)
  disconnected : IsAccepted s m CDN → Hears s m (ends (nothing s))
  error_notified : IsAccepted s m WEN → Hears s m (nothing s)
  link_set : IsAccepted s m SLI → Hears s m (nothing s)

-- the gateway ends the call
unfoldable pub end_step : CallState → Step
end_step s = if stands s.phase then ends (tells s (cdn (to_peer s) s.session administrative)) else nothing s
