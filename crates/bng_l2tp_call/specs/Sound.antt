-- What holds of a call at every moment and of each of its steps, by RFC 2661 sections 3.1, 4.4.4 and 7.4.2.
use Rattle.std.specs.Prelude.{◌≡◌, ◌≢◌, ◌≤◌, ℕ, true, false, ◌&&◌, not, if◌then◌else◌, List, [], length, Option, IsSome}
use Rattle.std.specs.List.{AllByRecursion}
use Rattle.bng_l2tp_wire.specs.Messages.{ControlMessage, control_text}
use Rattle.bng_l2tp_wire.specs.declared.message.TheConstants.{ICRQ}
use Rattle.bng_l2tp_wire.specs.Values.{message_type, assigned_session}
use Rattle.bng_l2tp_wire.specs.Judge.{is_type}
use Rattle.bng_l2tp_call.specs.CallState.{CallState, is_idle, is_waiting, is_established, is_ended, stands, rank}
use Rattle.bng_l2tp_call.specs.Steps.{Step, to_peer}

-- a call that stands has a number, and knows the peer's
pub record IsCall (s : CallState) : Type 0 where
  pub numbered : stands s.phase ≡ true → s.session ≢ 0
  pub addressed : stands s.phase ≡ true → IsSome s.peer_number

-- The octets are a control message for this session of the peer, short enough for a tunnel to send. Its Tunnel ID, Ns and Nr are 0, for the
-- tunnel to fill in.
pub record IsSentTo (session : ℕ) (octets : List ℕ) : Type 0 where
  pub message : ControlMessage
  pub text : octets ≡ control_text message
  pub session_is : message.session ≡ session
  pub tunnel_is : message.tunnel ≡ 0
  pub ns_is : message.ns ≡ 0
  pub nr_is : message.nr ≡ 0
  pub short : length octets ≤ 512

-- At most one message goes out, for the peer's session, and none once the call has ended. A call goes on and never back. The step tells where
-- it came to be established and where it ended or none was made, and tells nothing of a tunnel.
pub record IsSound (s : CallState) (step : Step) : Type 0 where
  pub kept : IsCall s → IsCall step.after
  pub few : length step.said.outs ≤ 1
  pub outs : AllByRecursion (IsSentTo (to_peer step.after)) step.said.outs
  pub over : is_ended s.phase ≡ true → step.said.outs ≡ []
  pub onward : rank s.phase ≤ rank step.after.phase
  pub opened : step.said.opened ≡ (is_waiting s.phase && is_established step.after.phase)
  pub ended : step.said.ended ≡ (not (is_ended s.phase) && is_ended step.after.phase)
  pub established : step.said.established ≡ false
  pub cleared : step.said.cleared ≡ false
  pub call : step.said.call ≡ false
  pub left_out : step.said.left_out ≡ false
  pub secret : step.after.secret ≡ s.secret
  pub session : step.after.session ≡ s.session

-- the peer's Assigned Session ID after a message: it is read from the first ICRQ alone
abbrev pub peer_number_after : CallState → ControlMessage → Option ℕ
peer_number_after s m =
    if is_idle s.phase && is_type (message_type m.avps) ICRQ then assigned_session s.secret m.avps else s.peer_number
