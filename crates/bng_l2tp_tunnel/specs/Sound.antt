-- What holds of a tunnel at every moment and of each of its steps, by RFC 2661 sections 3.1, 5.1.1, 5.8 and 7.2.
use Rattle.std.specs.Prelude.{◌≡◌, ◌≢◌, ◌<◌, ◌≤◌, ℕ, Bool, true, false, ◌&&◌, not, if◌then◌else◌, List, length, Some, None, IsSome}
use Rattle.std.specs.List.{AllByRecursion}
use Rattle.bng_l2tp_reliable.specs.declared.answers.Heard.{Heard}
use Rattle.bng_l2tp_reliable.specs.declared.answers.Heard.TheVariants.{Deliver, Repeat, Ahead, Acked}
use Rattle.bng_l2tp_reliable.specs.ChannelState.{Message}
use Rattle.bng_l2tp_reliable.specs.Calls.{next_out}
use Rattle.bng_l2tp_wire.specs.Messages.{ControlMessage, control_text}
use Rattle.bng_l2tp_wire.specs.declared.message.TheConstants.{SCCCN}
use Rattle.bng_l2tp_tunnel.specs.declared.phase.TunnelPhase.{TunnelPhase}
use Rattle.bng_l2tp_tunnel.specs.declared.phase.TunnelPhase.TheVariants.{Idle, Replied, Established, Cleared}
use Rattle.bng_l2tp_tunnel.specs.TunnelState.{TunnelState}
use Rattle.bng_l2tp_wire.specs.Values.{message_type}
use Rattle.bng_l2tp_tunnel.specs.Messages.{is_of_call}
use Rattle.bng_l2tp_tunnel.specs.Refusals.{has_answer}
use Rattle.bng_l2tp_tunnel.specs.Outs.{flight_most}
use Rattle.bng_l2tp_tunnel.specs.Steps.{Step, stands, is_established, to_peer, heard_by}

abbrev pub is_replied : TunnelPhase → Bool
is_replied Idle = false
is_replied Replied = true
is_replied Established = false
is_replied Cleared = false

abbrev pub is_cleared : TunnelPhase → Bool
is_cleared Idle = false
is_cleared Replied = false
is_cleared Established = false
is_cleared Cleared = true

-- the octets are a control message
abbrev pub IsSpelled : List ℕ → Type 0
IsSpelled octets = (m : ControlMessage) × (octets ≡ control_text m)

abbrev pub AreSpelled : List Message → Type 0
AreSpelled messages = AllByRecursion (λ (t : Message). IsSpelled t.items) messages

-- What the channel holds are control messages. A tunnel that was made is of a configured peer, has a number and knows the peer's, and holds no
-- message back that the window lets out.
pub record IsTunnel (s : TunnelState) : Type 0 where
  pub spelled : AreSpelled s.channel.messages
  pub window : s.channel.window ≤ flight_most
  pub known : stands s.phase ≡ true → s.known ≡ true
  pub numbered : stands s.phase ≡ true → s.number ≢ 0
  pub addressed : stands s.phase ≡ true → IsSome s.peer_number
  pub until : stands s.phase ≡ true → next_out s.channel ≡ None

-- the octets are a control message to this tunnel of the peer, with this Nr
pub record IsSentTo (tunnel nr : ℕ) (octets : List ℕ) : Type 0 where
  pub message : ControlMessage
  pub text : octets ≡ control_text message
  pub tunnel_is : message.tunnel ≡ tunnel
  pub nr_is : message.nr ≡ nr

-- a message that is delivered or came again is acknowledged in the step, since each datagram acknowledges
abbrev pub IsAnswered : Heard → List (List ℕ) → Type 0
IsAnswered Deliver outs = 0 < length outs
IsAnswered Repeat outs = 0 < length outs
IsAnswered Ahead outs = Unit {0}
IsAnswered Acked outs = Unit {0}

abbrev pub is_delivered : Heard → Bool
is_delivered Deliver = true
is_delivered Repeat = false
is_delivered Ahead = false
is_delivered Acked = false

-- a message that the channel of an established tunnel delivers, and that is of a call
abbrev pub is_for_call : TunnelState → ControlMessage → Bool
is_for_call s m = is_established s.phase && (is_delivered (heard_by s m) && is_of_call (message_type m.avps))

-- an SCCCN that answers the tunnel's Challenge, where one was sent (section 5.1.1)
pub record IsAnswerOf (s : TunnelState) (m : ControlMessage) : Type 0 where
  pub type : message_type m.avps ≡ Some SCCCN
  pub answer : has_answer SCCCN s.secret s.challenge m.avps ≡ true

-- the Nr of what goes out: that of the channel, which was begun by the message 0 where the tunnel had taken none
abbrev pub acked : TunnelState → Step → ℕ
acked s step = if stands s.phase then step.after.channel.nr else 1

-- Each datagram is a control message to the peer's tunnel that acknowledges all that was delivered, and the step tells where the tunnel came
-- to be established or was cleared.
pub record IsSound (s : TunnelState) (step : Step) : Type 0 where
  pub tunnel : IsTunnel step.after
  pub outs : AllByRecursion (IsSentTo (to_peer step.after) (acked s step)) step.said.outs
  pub established : step.said.established ≡ (is_replied s.phase && is_established step.after.phase)
  pub cleared : step.said.cleared ≡ (not (is_cleared s.phase) && is_cleared step.after.phase)
