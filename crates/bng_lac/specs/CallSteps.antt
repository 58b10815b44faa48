-- What a message does to a call of an established tunnel, by RFC 2661 sections 6.6 to 6.14 and 7.4.1.
use Rattle.std.specs.Prelude.{ℕ, Bool, true, false, if◌then◌else◌, List, Option, Some, None, unwrap_or}
use Rattle.bng_l2tp_wire.specs.Avps.{L2tpAvp}
use Rattle.bng_l2tp_wire.specs.Messages.{control_text}
use Rattle.bng_l2tp_wire.specs.Values.{message_type, assigned_session}
use Rattle.bng_l2tp_wire.specs.Judge.{is_type}
use Rattle.bng_l2tp_call.specs.declared.refusal.CallRefusal.{CallRefusal}
use Rattle.bng_l2tp_wire.specs.declared.message.TheConstants.{ICRP, CDN}
use Rattle.bng_l2tp_call.specs.Spelling.{cdn, code_of}
use Rattle.bng_lac.specs.declared.call.LacCall.{LacCall}
use Rattle.bng_lac.specs.Messages.{is_taken_by}
use Rattle.bng_lac.specs.Refusals.{call_refusal_of}
use Rattle.bng_lac.specs.Spelling.{iccn}

-- the text of what a call answers, what becomes of it, and whether it came to be up or ended
pub record CallStep : Type 0 where
  pub answer : Option (List ℕ)
  pub after : Option LacCall
  pub opened : Bool
  pub ended : Bool

-- the session of the server that a call's messages go to, 0 where it is not known
abbrev pub peer_session : LacCall → ℕ
peer_session c = unwrap_or c.peer 0

-- the call's, or where it is not known that of the message
abbrev pub answered_session : Option ℕ → Option ℕ → ℕ
answered_session None said = unwrap_or said 0
answered_session (Some known) said = known

-- the message changes nothing
abbrev pub passes : LacCall → CallStep
passes c = record { answer = None; after = Some c; opened = false; ended = false }

-- an ICRP, which is answered by an ICCN: the call is up
abbrev pub opens : Option (List ℕ) → LacCall → List L2tpAvp → CallStep
opens secret c avps = record {
  answer = Some (control_text (iccn (unwrap_or (assigned_session secret avps) 0)));
  after = Some (record c { peer = assigned_session secret avps });
  opened = true;
  ended = false;
}

-- a CDN of the server
abbrev pub ends : CallStep
ends = record { answer = None; after = None; opened = false; ended = true }

-- a CDN that refuses the message, which ends the call
abbrev pub refuses : Option (List ℕ) → LacCall → List L2tpAvp → CallRefusal → CallStep
refuses secret c avps cause = record {
  answer = Some (control_text (cdn (answered_session c.peer (assigned_session secret avps)) c.session.0 (code_of cause)));
  after = None;
  opened = false;
  ended = true;
}

-- a message that is not refused
abbrev pub accepted : Option (List ℕ) → LacCall → Option ℕ → List L2tpAvp → CallStep
accepted secret c type avps =
    if is_type type ICRP then opens secret c avps
    else (if is_type type CDN then ends
    else passes c)

abbrev pub judged : Option (List ℕ) → LacCall → List L2tpAvp → Option CallRefusal → CallStep
judged secret c avps None = accepted secret c (message_type avps) avps
judged secret c avps (Some cause) = refuses secret c avps cause

-- what a message does to a call
unfoldable pub call_step : Option (List ℕ) → LacCall → List L2tpAvp → CallStep
call_step secret c avps = if is_taken_by c (message_type avps) then judged secret c avps (call_refusal_of secret avps) else passes c
