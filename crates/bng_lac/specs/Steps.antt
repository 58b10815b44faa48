-- What the calls of a tunnel of an access concentrator do, by RFC 2661 sections 5.5, 5.7, 5.8, 6 and 7.
use Rattle.std.specs.Prelude.{ℕ, ◌+◌, ◌%◌, ◌^◌, nat_le, Bool, true, ◌&&◌, ◌||◌, if◌then◌else◌, List, [], ◌∷◌, ◌++◌, map, length, Option, Some, None, unwrap_or, option_to_list}
use Rattle.std.specs.Option.{option_map, option_and_then}
use Rattle.bng_base.specs.declared.address.Peer.{Peer}
use Rattle.bng_base.specs.declared.address.SessionNo.{SessionNo}
use Rattle.bng_l2tp_reliable.specs.declared.answers.Heard.{Heard}
use Rattle.bng_l2tp_reliable.specs.declared.answers.Heard.TheVariants.{Deliver, Repeat, Ahead, Acked}
use Rattle.bng_l2tp_reliable.specs.declared.answers.Due.{Due}
use Rattle.bng_l2tp_reliable.specs.declared.answers.Due.TheVariants.{Nothing, Resend, Hello, GiveUp}
use Rattle.bng_l2tp_reliable.specs.ChannelState.{ChannelState, begun, with_window}
use Rattle.bng_l2tp_reliable.specs.Calls.{queued, is_full, heard_of, received, next_out, after_next}
use Rattle.bng_l2tp_reliable.specs.Timers.{due_of, after_due}
use Rattle.bng_l2tp_wire.specs.Avps.{L2tpAvp}
use Rattle.bng_l2tp_wire.specs.Messages.{ControlMessage, control_text}
use Rattle.bng_l2tp_tunnel.specs.declared.refusal.TunnelRefusal.{TunnelRefusal}
use Rattle.bng_l2tp_tunnel.specs.declared.acknowledging.Acknowledging.{Acknowledging}
use Rattle.bng_l2tp_tunnel.specs.declared.acknowledging.Acknowledging.TheVariants.{Never, ByAny, ByZlb}
use Rattle.bng_l2tp_wire.specs.Values.{default_window, value_of, message_type, assigned_tunnel, window_of}
use Rattle.bng_l2tp_wire.specs.View.{Said, sends}
use Rattle.bng_l2tp_wire.specs.Judge.{is_type}
use Rattle.bng_l2tp_tunnel.specs.Outs.{datagram, flight_before, zlb, or_zlb, outs_of, after_out, flight_most}
use Rattle.bng_l2tp_tunnel.specs.Spelling.{stop_ccn, hello, code_of, shut_down}
use Rattle.bng_l2tp_tunnel.specs.Steps.{is_zlb}
use Rattle.bng_l2tp_call.specs.Spelling.{cdn, administrative}
use Rattle.bng_lac.specs.declared.called.Called.{Called}
use Rattle.bng_lac.specs.declared.called.Called.TheVariants.{Asked, Full}
use Rattle.bng_lac.specs.declared.call.LacCall.{LacCall}
use Rattle.bng_lac.specs.declared.phase.LacPhase.TheVariants.{Idle, WaitReply, Established}
use Rattle.bng_l2tp_wire.specs.declared.message.TheConstants.{SCCRP, STOP_CCN}
use Rattle.bng_l2tp_wire.specs.declared.kind.TheConstants.{CHALLENGE}
use Rattle.bng_lac.specs.LacState.{LacState, is_waiting, is_established}
use Rattle.bng_lac.specs.Messages.{is_of_call}
use Rattle.bng_lac.specs.Refusals.{refusal_of}
use Rattle.bng_lac.specs.Spelling.{sccrq, scccn, icrq}
use Rattle.bng_lac.specs.Calls.{call_of, with_call, without_call, new_call}
use Rattle.bng_lac.specs.CallSteps.{CallStep, call_step, peer_session}

-- what a call gives, and the tunnel after it
pub record Step : Type 0 where
  pub said : Said
  pub after : LacState

-- the tunnel of the server that datagrams go to, 0 where it is not known
abbrev pub to_peer : LacState → ℕ
to_peer s = unwrap_or s.peer_number 0

abbrev pub nothing : LacState → Step
nothing s = record { said = sends []; after = s }

-- what the window lets out goes out
abbrev pub flushed : Acknowledging → LacState → Step
flushed acknowledging s = record {
  said = sends (outs_of acknowledging (to_peer s) s.channel);
  after = record s { channel = after_out flight_most s.channel };
}

-- a text is handed to the channel; where 64 wait it is left out
abbrev pub queue_text : ChannelState → List ℕ → ℕ → ChannelState
queue_text c text now = queued c (record { items = text }) now

abbrev pub queue : ChannelState → ControlMessage → ℕ → ChannelState
queue c m now = queue_text c (control_text m) now

-- a text is handed to the channel, and what the window lets out goes out
abbrev pub queued_text : Acknowledging → LacState → List ℕ → ℕ → Step
queued_text acknowledging s text now =
    let step = flushed acknowledging (record s { channel = queue_text s.channel text now }) in
    record step { said = record step.said { left_out = is_full s.channel } }

abbrev pub answered : Acknowledging → LacState → ControlMessage → ℕ → Step
answered acknowledging s m now = queued_text acknowledging s (control_text m) now

-- The tunnel is cleared in this step, and its calls are gone.
abbrev pub cleared : LacState → LacState
cleared s = record s { phase = Idle; calls = [] }

abbrev pub clears : Step → Step
clears step = record { said = record step.said { cleared = true }; after = cleared step.after }

-- Opening ------------------------------------------------------------------------------------------------------------------------------

-- the tunnel begins anew, and its SCCRQ waits
abbrev pub opened : LacState → Peer → ℕ → List ℕ → ℕ → LacState
opened s lns number random now = record s {
  number = number;
  lns = lns;
  phase = WaitReply;
  peer_number = None;
  challenge = random;
  channel = queue (begun default_window now) (sccrq s.name number s.secret random) now;
  calls = [];
  serial = 1;
}

-- ICRQs as they are handed to the channel: the channel, the serial number of the next one, and whether one was left out
pub record Asking : Type 0 where
  pub channel : ChannelState
  pub serial : ℕ
  pub left_out : Bool

-- the serial number after this one
abbrev pub serial_after : ℕ → ℕ
serial_after serial = (serial + 1) % 2 ^ 32

abbrev pub asks : Asking → LacCall → ℕ → Asking
asks a c now = record {
  channel = queue a.channel (icrq c.session.0 a.serial) now;
  serial = serial_after a.serial;
  left_out = a.left_out || is_full a.channel;
}

-- an ICRQ for each of the calls, in their order
abbrev pub asks_each : Asking → List LacCall → ℕ → Asking
asks_each a [] now = a
asks_each a (c ∷ cs) now = asks_each (asks a c now) cs now

-- the channel of a server that has told its window, with the SCCCN
abbrev pub connecting : ChannelState → Option (List ℕ) → ℕ → List L2tpAvp → ℕ → Asking
connecting c secret serial avps now = record {
  channel = queue (with_window c (window_of secret avps)) (scccn secret (value_of secret CHALLENGE avps)) now;
  serial = serial;
  left_out = is_full (with_window c (window_of secret avps));
}

-- an SCCRP that is not refused: an SCCCN goes out, and an ICRQ for each call, all of which waited for the tunnel
abbrev pub established : LacState → List L2tpAvp → ℕ → Step
established s avps now =
    let asking = asks_each (connecting s.channel s.secret s.serial avps now) s.calls now in
    let step = flushed ByAny (record s { phase = Established; channel = asking.channel; serial = asking.serial }) in
    record step { said = record step.said { established = true; left_out = asking.left_out } }

-- Messages of a tunnel ------------------------------------------------------------------------------------------------------------------

-- a StopCCN of the server
abbrev pub ended : LacState → Step
ended s = clears (record { said = sends (zlb (to_peer s) s.channel ∷ []); after = s })

-- a message that is not refused
abbrev pub accepted : LacState → Option ℕ → List L2tpAvp → ℕ → Step
accepted s type avps now =
    if is_type type SCCRP then established s avps now
    else (if is_type type STOP_CCN then ended s
    else flushed ByZlb s)

abbrev pub judged : LacState → List L2tpAvp → ℕ → Option TunnelRefusal → Step
judged s avps now None = accepted s (message_type avps) avps now
judged s avps now (Some refusal) = clears (answered ByAny s (stop_ccn s.number (code_of refusal)) now)

-- Until the tunnel is established, the server's tunnel is the one that the message tells.
abbrev pub learned : LacState → List L2tpAvp → LacState
learned s avps = if is_waiting s.phase then record s { peer_number = assigned_tunnel s.secret avps } else s

-- Messages of a call --------------------------------------------------------------------------------------------------------------------

-- the calls after one of them took a message
abbrev pub calls_after : LacCall → Option LacCall → List LacCall → List LacCall
calls_after c None calls = without_call c.session.0 calls
calls_after c (Some after) calls = with_call after calls

-- After what the window lets out, the call's answer waits, and goes out where the window lets it. It acknowledges the message; where nothing
-- goes out, and where there is no answer, a ZLB does.
abbrev pub replied : LacState → ℕ → Option (List ℕ) → Step
replied s now None = flushed ByZlb s
replied s now (Some text) =
    let first = flushed Never s in
    let c = queue_text first.after.channel text now in
    let channel = after_next c (next_out c) in
    record {
      said = record (sends (or_zlb (to_peer s) channel (first.said.outs ++ map (datagram (to_peer s)) (option_to_list (next_out c))))) { left_out = is_full first.after.channel };
      after = record s { channel = channel };
    }

-- with what the call tells
abbrev pub with_words : CallStep → Step → Step
with_words call step = record step { said = record step.said { opened = call.opened; ended = call.ended } }

-- A message of a call, which is found by the session of the message. One whose call is not known changes nothing, and a ZLB acknowledges it.
abbrev pub heard_by_call : LacState → List L2tpAvp → ℕ → Option LacCall → Step
heard_by_call s avps now None = flushed ByZlb s
heard_by_call s avps now (Some c) =
    let call = call_step s.secret c avps in
    with_words call (replied (record s { calls = calls_after c call.after s.calls }) now call.answer)

-- Messages ------------------------------------------------------------------------------------------------------------------------------

-- a message that the channel delivers: a tunnel's or a call's
abbrev pub delivered : LacState → ControlMessage → ℕ → Step
delivered s m now =
    if is_established s.phase && is_of_call (message_type m.avps) then heard_by_call s m.avps now (call_of m.session s.calls)
    else judged (learned s m.avps) m.avps now (refusal_of s m.avps)

abbrev pub heard : LacState → ControlMessage → ℕ → Heard → Step
heard s m now Deliver = delivered s m now
heard s m now Repeat = flushed ByZlb s
heard s m now Ahead = flushed Never s
heard s m now Acked = flushed Never s

-- what a message is to the channel
abbrev pub heard_by : LacState → ControlMessage → Heard
heard_by s m = heard_of s.channel.nr m.ns (is_zlb m.avps)

-- the tunnel whose channel took a message's numbers
abbrev pub having_heard : LacState → ControlMessage → ℕ → LacState
having_heard s m now = record s { channel = received s.channel m.ns m.nr (is_zlb m.avps) now }

-- what a message does to a tunnel that is in use
unfoldable pub lac_step : LacState → ControlMessage → List ℕ → ℕ → Step
lac_step s m random now = heard (having_heard s m now) m now (heard_by s m)

-- The other calls -----------------------------------------------------------------------------------------------------------------------

-- how many calls wait for the tunnel at most
abbrev pub waiting_most : ℕ
waiting_most = 63

-- 63 calls wait for the tunnel, or 64 messages wait in its channel
abbrev pub has_no_room : LacState → Bool
has_no_room s = is_waiting s.phase && nat_le waiting_most (length s.calls) || is_full s.channel

abbrev pub called_of : LacState → Called
called_of s = if has_no_room s then Full else Asked

-- an ICRQ for this session waits
abbrev pub asked_for : LacState → ℕ → ℕ → LacState
asked_for s session now =
    record s { channel = queue s.channel (icrq session s.serial) now; serial = serial_after s.serial }

-- the tunnel after a call for this session came to it: it waits for the tunnel, or its ICRQ waits
abbrev pub with_new_call : LacState → SessionNo → ℕ → LacState
with_new_call s session now =
    let asking = if is_established s.phase then asked_for s session.0 now else s in
    record asking { calls = with_call (new_call session) s.calls }

abbrev pub called : LacState → SessionNo → ℕ → LacState
called s session now = if has_no_room s then s else with_new_call s session now

-- the peer's tunnel and session of a session whose call is up
abbrev pub up_of : LacState → ℕ → Option (ℕ × ℕ)
up_of s session =
    option_and_then (λ (c : LacCall). option_map (λ peer. (to_peer s, peer)) c.peer) (call_of session s.calls)

-- the CDN of a call that the gateway ends, where it was asked of the server
abbrev pub parting : LacState → LacCall → ℕ → ChannelState
parting s c now =
    if is_established s.phase then queue s.channel (cdn (peer_session c) c.session.0 administrative) now else s.channel

abbrev pub parted : LacState → ℕ → Option LacCall → LacState
parted s now None = s
parted s now (Some c) = record s { channel = parting s c now; calls = without_call c.session.0 s.calls }

-- the tunnel after the gateway ended the call of a session
abbrev pub ended_by : LacState → ℕ → ℕ → LacState
ended_by s session now = parted s now (call_of session s.calls)

-- What the timers of the channel ask for. A message that went out before goes out again together with what the window lets out first.
abbrev pub reminded : LacState → ℕ → Due → Step
reminded s now Nothing = flushed Never s
reminded s now Resend =
    let channel = after_out flight_most s.channel in
    record { said = sends (map (datagram (to_peer s)) (flight_before flight_most channel)); after = record s { channel = channel } }
reminded s now Hello = answered Never s hello now
reminded s now GiveUp = clears (nothing s)

-- what is due
unfoldable pub due_step : LacState → ℕ → Step
due_step s now = reminded (record s { channel = after_due s.channel now (due_of s.channel now) }) now (due_of s.channel now)

-- the gateway shuts down
unfoldable pub stop_step : LacState → ℕ → Step
stop_step s now = clears (answered Never s (stop_ccn s.number shut_down) now)
