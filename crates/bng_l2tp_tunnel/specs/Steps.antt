-- What the calls of a tunnel do, by RFC 2661 sections 5.5, 5.7, 5.8, 6 and 7.2.
use Rattle.std.specs.Prelude.{ℕ, Bool, true, false, ◌&&◌, ◌==◌, if◌then◌else◌, List, [], ◌∷◌, map, length, Option, Some, None, unwrap_or}
use Rattle.bng_l2tp_reliable.specs.declared.answers.Queued.{Queued}
use Rattle.bng_l2tp_reliable.specs.declared.answers.Queued.TheVariants.{Ok, WindowQueueFull}
use Rattle.bng_l2tp_reliable.specs.declared.answers.Heard.{Heard}
use Rattle.bng_l2tp_reliable.specs.declared.answers.Heard.TheVariants.{Deliver, Repeat, Ahead, Acked}
use Rattle.bng_l2tp_reliable.specs.declared.answers.Due.{Due}
use Rattle.bng_l2tp_reliable.specs.declared.answers.Due.TheVariants.{Nothing, Resend, Hello, GiveUp}
use Rattle.bng_l2tp_reliable.specs.ChannelState.{begun}
use Rattle.bng_l2tp_reliable.specs.Calls.{queued_of, queued, heard_of, received}
use Rattle.bng_l2tp_reliable.specs.Timers.{due_of, after_due}
use Rattle.bng_l2tp_wire.specs.Avps.{L2tpAvp}
use Rattle.bng_l2tp_wire.specs.Messages.{ControlMessage, control_text}
use Rattle.bng_l2tp_wire.specs.declared.kind.TheConstants.{CHALLENGE}
use Rattle.bng_l2tp_wire.specs.declared.message.TheConstants.{SCCRQ, SCCCN, STOP_CCN}
use Rattle.bng_l2tp_tunnel.specs.declared.phase.TunnelPhase.{TunnelPhase}
use Rattle.bng_l2tp_tunnel.specs.declared.phase.TunnelPhase.TheVariants.{Idle, Replied, Established, Cleared}
use Rattle.bng_l2tp_tunnel.specs.declared.refusal.TunnelRefusal.{TunnelRefusal}
use Rattle.bng_l2tp_tunnel.specs.declared.acknowledging.Acknowledging.{Acknowledging}
use Rattle.bng_l2tp_tunnel.specs.declared.acknowledging.Acknowledging.TheVariants.{Never, ByAny, ByZlb}
use Rattle.bng_l2tp_wire.specs.Values.{value_of, message_type, assigned_tunnel, window_of}
use Rattle.bng_l2tp_wire.specs.View.{Said, sends}
use Rattle.bng_l2tp_wire.specs.Judge.{is_type}
use Rattle.bng_l2tp_tunnel.specs.Messages.{is_of_call}
use Rattle.bng_l2tp_tunnel.specs.TunnelState.{TunnelState}
use Rattle.bng_l2tp_tunnel.specs.Refusals.{refusal_of}
use Rattle.bng_l2tp_tunnel.specs.Spelling.{sccrp, stop_ccn, hello, code_of, shut_down}
use Rattle.bng_l2tp_tunnel.specs.Outs.{datagram, flight_before, zlb, outs_of, after_out, flight_most}

-- what a call gives, and the tunnel after it
pub record Step : Type 0 where
  pub said : Said
  pub after : TunnelState

abbrev pub nothing : TunnelState → Step
nothing s = record { said = sends []; after = s }

-- the tunnel of the peer that datagrams go to
abbrev pub to_peer : TunnelState → ℕ
to_peer s = unwrap_or s.peer_number 0

-- a tunnel that was made, and was not cleared
abbrev pub stands : TunnelPhase → Bool
stands Idle = false
stands Replied = true
stands Established = true
stands Cleared = false

abbrev pub is_established : TunnelPhase → Bool
is_established Idle = false
is_established Replied = false
is_established Established = true
is_established Cleared = false

-- what the window lets out goes out
abbrev pub flushed : Acknowledging → TunnelState → Step
flushed acknowledging s = record {
  said = sends (outs_of acknowledging (to_peer s) s.channel);
  after = record s { channel = after_out flight_most s.channel };
}

abbrev pub is_full : Queued → Bool
is_full Ok = false
is_full WindowQueueFull = true

-- a message is handed to the channel, and what the window lets out goes out
abbrev pub queued_text : Acknowledging → TunnelState → List ℕ → ℕ → Step
queued_text acknowledging s text now =
    let step = flushed acknowledging (record s { channel = queued s.channel (record { items = text }) now }) in
    record step { said = record step.said { left_out = is_full (queued_of s.channel) } }

abbrev pub answered : Acknowledging → TunnelState → ControlMessage → ℕ → Step
answered acknowledging s message now = queued_text acknowledging s (control_text message) now

-- the tunnel is cleared in this step
abbrev pub clears : Step → Step
clears step = record { said = record step.said { cleared = true }; after = record step.after { phase = Cleared } }

-- SCCRQ ---------------------------------------------------------------------------------------------------------------------------------

-- The StopCCN that turns an SCCRQ away: outside of any channel, and of no tunnel. Where the peer's tunnel cannot be read there is none.
abbrev pub turned_away : Option ℕ → TunnelRefusal → List (List ℕ)
turned_away None refusal = []
turned_away (Some tunnel) refusal = control_text (record (stop_ccn 0 (code_of refusal)) { tunnel = tunnel; nr = 1 }) ∷ []

-- the tunnel that an SCCRQ makes, with the channel over which it came
abbrev pub made : TunnelState → ControlMessage → List ℕ → ℕ → TunnelState
made s m random now = record s {
  phase = Replied;
  peer_number = assigned_tunnel s.secret m.avps;
  challenge = random;
  channel = received (begun (window_of s.secret m.avps) now) m.ns m.nr false now;
}

abbrev pub replied : TunnelState → ControlMessage → List ℕ → ℕ → Step
replied s m random now =
    answered ByAny (made s m random now) (sccrp s.name s.number s.secret random (value_of s.secret CHALLENGE m.avps)) now

-- an SCCRQ that is refused
abbrev pub refused : TunnelState → List L2tpAvp → TunnelRefusal → Step
refused s avps refusal =
    clears (record {
      said = sends (turned_away (assigned_tunnel s.secret avps) refusal);
      after = record s { peer_number = assigned_tunnel s.secret avps };
    })

abbrev pub opened_by : TunnelState → ControlMessage → List ℕ → ℕ → Option TunnelRefusal → Step
opened_by s m random now None = replied s m random now
opened_by s m random now (Some refusal) = refused s m.avps refusal

-- an SCCRQ that is the first message of its channel
abbrev pub begins : ControlMessage → Bool
begins m = is_type (message_type m.avps) SCCRQ && m.ns == 0

-- the first message of a peer: no tunnel is made but by an SCCRQ
abbrev pub opening : TunnelState → ControlMessage → List ℕ → ℕ → Step
opening s m random now =
    if begins m then opened_by s m random now (refusal_of s m.avps) else clears (nothing s)

-- Messages of a tunnel that was made --------------------------------------------------------------------------------------------------------

-- A call's message is handed over to its call. What the window lets out goes out; the call's answer, or a ZLB, is still to acknowledge it.
abbrev pub handed_over : TunnelState → Step
handed_over s = let step = flushed Never s in record step { said = record step.said { call = true } }

-- a StopCCN of the peer
abbrev pub ended : TunnelState → Step
ended s = clears (record { said = sends (zlb (to_peer s) s.channel ∷ []); after = s })

abbrev pub established : Step → Step
established step = record { said = record step.said { established = true }; after = record step.after { phase = Established } }

-- a message that is not refused
abbrev pub accepted : TunnelState → Option ℕ → Step
accepted s type =
    if is_type type SCCCN then established (flushed ByZlb s)
    else (if is_type type STOP_CCN then ended s
    else flushed ByZlb s)

abbrev pub judged : TunnelState → Option ℕ → ℕ → Option TunnelRefusal → Step
judged s type now None = accepted s type
judged s type now (Some refusal) = clears (answered ByAny s (stop_ccn s.number (code_of refusal)) now)

-- a message that the channel delivers
abbrev pub delivered : TunnelState → List L2tpAvp → ℕ → Step
delivered s avps now =
    if is_established s.phase && is_of_call (message_type avps) then handed_over s
    else judged s (message_type avps) now (refusal_of s avps)

abbrev pub heard : TunnelState → List L2tpAvp → ℕ → Heard → Step
heard s avps now Deliver = delivered s avps now
heard s avps now Repeat = flushed ByZlb s
heard s avps now Ahead = flushed Never s
heard s avps now Acked = flushed Never s

-- a message without AVPs
abbrev pub is_zlb : List L2tpAvp → Bool
is_zlb avps = length avps == 0

-- what a message is to the channel
abbrev pub heard_by : TunnelState → ControlMessage → Heard
heard_by s m = heard_of s.channel.nr m.ns (is_zlb m.avps)

-- the tunnel whose channel took a message's numbers
abbrev pub having_heard : TunnelState → ControlMessage → ℕ → TunnelState
having_heard s m now = record s { channel = received s.channel m.ns m.nr (is_zlb m.avps) now }

-- a message to a tunnel that was made
abbrev pub hearing : TunnelState → ControlMessage → ℕ → Step
hearing s m now = heard (having_heard s m now) m.avps now (heard_by s m)

abbrev pub in_phase : TunnelPhase → TunnelState → ControlMessage → List ℕ → ℕ → Step
in_phase Idle s m random now = opening s m random now
in_phase Replied s m random now = hearing s m now
in_phase Established s m random now = hearing s m now
in_phase Cleared s m random now = nothing s

-- what a message does to a tunnel
unfoldable pub message_step : TunnelState → ControlMessage → List ℕ → ℕ → Step
message_step s m random now = in_phase s.phase s m random now

-- The other calls --------------------------------------------------------------------------------------------------------------------------

-- what the timers of the channel ask for
abbrev pub reminded : TunnelState → ℕ → Due → Step
reminded s now Nothing = nothing s
reminded s now Resend = record { said = sends (map (datagram (to_peer s)) (flight_before flight_most s.channel)); after = s }
reminded s now Hello = answered Never s hello now
reminded s now GiveUp = clears (nothing s)

-- what is due of a tunnel
unfoldable pub due_step : TunnelState → ℕ → Step
due_step s now =
    if stands s.phase then reminded (record s { channel = after_due s.channel now (due_of s.channel now) }) now (due_of s.channel now)
    else nothing s

-- a call's message is sent
unfoldable pub send_step : TunnelState → List ℕ → ℕ → Step
send_step s text now = if stands s.phase then queued_text Never s text now else nothing s

-- the gateway shuts down
unfoldable pub stop_step : TunnelState → ℕ → Step
stop_step s now = if stands s.phase then clears (answered Never s (stop_ccn s.number shut_down) now) else nothing s
