-- What a message does to a call, as the cases of the table are looked at one after the other (RFC 2661 section 7.4.2).
use Rattle.std.specs.Prelude.{ℕ, if◌then◌else◌, List, Option, Some, None}
use Rattle.bng_l2tp_wire.specs.Avps.{L2tpAvp}
use Rattle.bng_l2tp_call.specs.declared.refusal.CallRefusal.{CallRefusal}
use Rattle.bng_l2tp_wire.specs.declared.message.TheConstants.{ICRQ, ICCN, CDN}
use Rattle.bng_l2tp_wire.specs.Values.{message_type}
use Rattle.bng_l2tp_wire.specs.Judge.{is_type}
use Rattle.bng_l2tp_call.specs.Messages.{is_taken}
use Rattle.bng_l2tp_call.specs.CallState.{CallState}
use Rattle.bng_l2tp_call.specs.Refusals.{refusal_of}
use Rattle.bng_l2tp_call.specs.Steps.{Step, nothing, ends, refuses, replies, opens}

abbrev pub accepted : CallState → Option ℕ → List L2tpAvp → Step
accepted s type avps =
    if is_type type ICRQ then replies s avps
    else (if is_type type ICCN then opens s
    else (if is_type type CDN then ends (nothing s)
    else nothing s))

abbrev pub judged : CallState → Option ℕ → List L2tpAvp → Option CallRefusal → Step
judged s type avps None = accepted s type avps
judged s type avps (Some cause) = refuses s avps cause

unfoldable pub message_step : CallState → List L2tpAvp → Step
message_step s avps =
    if is_taken s.phase (message_type avps) then judged s (message_type avps) avps (refusal_of s avps) else nothing s
