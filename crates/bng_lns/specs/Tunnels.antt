-- The tunnels of one shard, and what a control message does to them (RFC 2661 sections 5.1, 5.7 and 5.8). Moments are in milliseconds.
use Rattle.std.specs.Prelude.{◌≡◌, ◌+◌, ◌<◌, ◌≤◌, ℕ, Bool, true, false, ◌==◌, nat_lt, if◌then◌else◌, List, [], length, replicate, find, slice_get, Option, Some, None, IsSome, is_some, option_map}
use Rattle.std.specs.List.{AllByRecursion, position_or_len}
use Rattle.bng_base.specs.declared.address.Ip4.{Ip4}
use Rattle.bng_base.specs.declared.address.Peer.{Peer}
use Rattle.bng_base.specs.declared.settings.Lac.{Lac}
use Rattle.bng_l2tp_reliable.specs.ChannelState.{begun}
use Rattle.bng_l2tp_wire.specs.Messages.{ControlMessage}
use Rattle.bng_l2tp_wire.specs.declared.message.TheConstants.{SCCRQ}
use Rattle.bng_l2tp_tunnel.specs.declared.phase.TunnelPhase.TheVariants.{Idle}
use Rattle.bng_l2tp_wire.specs.Judge.{is_type}
use Rattle.bng_l2tp_tunnel.specs.Sound.{IsSpelled}
use Rattle.bng_l2tp_tunnel.specs.Steps.{Step, stands, message_step}
use Rattle.bng_l2tp_tunnel.specs.TunnelState.{TunnelState}
use Rattle.bng_l2tp_wire.specs.Values.{default_window, message_type, assigned_tunnel}
use Rattle.bng_l2tp_wire.specs.View.{Said, octets_of, said}
use Rattle.bng_lns.specs.declared.place.TunnelPlace.{TunnelPlace}
use Rattle.bng_lns.specs.declared.outcome.Came.{Came}
use Rattle.bng_lns.specs.declared.outcome.MessageOutcome.{MessageOutcome}
use Rattle.bng_lns.specs.declared.outcome.MessageOutcome.TheVariants.{Unknown, Ignored, Step as TakenStep}
use Rattle.bng_lns.specs.Places.{number_at, is_free, is_numbered, is_named, is_again, place_of, stepped, put_at}

pub record TunnelsState : Type 0 where
  -- the shard's number
  pub shard : ℕ
  pub places : List TunnelPlace

-- the tunnel with this number, if it stands
abbrev pub tunnel_at : TunnelsState → ℕ → Option TunnelState
tunnel_at t number = option_map (λ (p : TunnelPlace). p.tunnel) (find (is_numbered number) t.places)

-- the tunnel with this number took a step at this moment
abbrev pub with_step : ℕ → TunnelsState → ℕ → TunnelState → TunnelsState
with_step now t number after = record t { places = stepped now number after t.places }

-- the place of the lowest number that may be given
abbrev pub free_place : ℕ → TunnelsState → ℕ
free_place now t = position_or_len (is_free now) t.places

-- the lowest number that may be given, 0 where none may: a shard has 16 tunnels at most
abbrev pub vacant : ℕ → TunnelsState → ℕ
vacant now t = if nat_lt (free_place now t) 16 then number_at t.shard (free_place now t) else 0

-- A number that is given: one of the shard's. If it had a tunnel, that one was cleared 31 s ago; each lower number has a tunnel or rests.
pub record IsGiven (now : ℕ) (t : TunnelsState) (number : ℕ) : Type 0 where
  pub place : ℕ
  pub few : place < 16
  pub number_is : number ≡ number_at t.shard place
  pub rested : (p : TunnelPlace) → slice_get t.places place ≡ Some p → (stands p.tunnel.phase ≡ false) × (p.since + 31000 ≤ now)
  pub lower : (k : ℕ) (p : TunnelPlace) → k < place → slice_get t.places k ≡ Some p → is_free now p ≡ false

-- the configured access concentrator with this address
abbrev pub lac_of : List Lac → Ip4 → Option Lac
lac_of lacs ip = find (λ l. l.ip.0 == ip.0) lacs

-- the secret that is shared with it
abbrev pub secret_of : Option Lac → Option (List ℕ)
secret_of None = None
secret_of (Some lac) = octets_of lac.secret

-- a tunnel of this number that has taken no message
abbrev pub begun_with : (name : List ℕ) → Option Lac → Peer → (now number : ℕ) → TunnelState
begun_with name lac from now number = record {
  name = name;
  secret = secret_of lac;
  known = is_some lac;
  number = number;
  peer = from;
  phase = Idle;
  peer_number = None;
  challenge = replicate 16 0;
  channel = begun default_window now;
}

pub data Answer : Type 0 where
  -- no tunnel of the sender has the number
  NoTunnel : Answer
  -- it is for no tunnel, and no SCCRQ
  NoRequest : Answer
  -- a tunnel of this number took it, or it asked for one; 0 where none was made
  Steps : ℕ → Said → Answer

abbrev pub answer_of : MessageOutcome → Answer
answer_of Unknown = NoTunnel
answer_of Ignored = NoRequest
answer_of (TakenStep number step) = Steps number.0 (said step)

abbrev pub outs_of : Answer → List (List ℕ)
outs_of NoTunnel = []
outs_of NoRequest = []
outs_of (Steps number said) = said.outs

-- a call's message was handed over
abbrev pub hands_over : Answer → Bool
hands_over NoTunnel = false
hands_over NoRequest = false
hands_over (Steps number said) = said.call

-- the number of the tunnel that took the message
abbrev pub number_of : Answer → ℕ
number_of NoTunnel = 0
number_of NoRequest = 0
number_of (Steps number said) = number

-- What holds of every answer: what goes out are control messages, nine at most, and with a call's message eight, so that there is room for its
-- call's answer. A call's message was handed over by a tunnel that stands.
pub record IsTaken (answer : Answer) (after : TunnelsState) : Type 0 where
  pub spelled : AllByRecursion IsSpelled (outs_of answer)
  pub few : length (outs_of answer) ≤ 9
  pub room : hands_over answer ≡ true → length (outs_of answer) ≤ 8
  pub stands : hands_over answer ≡ true → IsSome (tunnel_at after (number_of answer))

pub record Outcome : Type 0 where
  pub answer : Answer
  pub after : TunnelsState

abbrev pub outcome : Answer → TunnelsState → Outcome
outcome answer after = record { answer = answer; after = after }

-- the tunnel that was found takes the message
abbrev pub heard_by : TunnelsState → Came → ControlMessage → Option TunnelPlace → Outcome
heard_by t came m None = outcome NoTunnel t
heard_by t came m (Some p) =
    let step = message_step p.tunnel m came.random came.moment in
    outcome (Steps p.tunnel.number step.said) (with_step came.moment t p.tunnel.number step.after)

-- a tunnel that was made takes the place of its number
abbrev pub made_by : TunnelsState → ℕ → Step → Outcome
made_by t now step =
    if stands step.after.phase
    then outcome (Steps step.after.number step.said) (record t { places = put_at (free_place now t) (place_of now step.after) t.places })
    else outcome (Steps 0 step.said) t

-- An SCCRQ of a peer and an Assigned Tunnel ID that have a tunnel came again over its channel. Another asks for a tunnel.
abbrev pub requested_by : (name : List ℕ) → Option Lac → TunnelsState → Came → ControlMessage → Option TunnelPlace → Outcome
requested_by name lac t came m (Some p) = heard_by t came m (Some p)
requested_by name lac t came m None =
    made_by t came.moment (message_step (begun_with name lac came.from came.moment (vacant came.moment t)) m came.random came.moment)

abbrev pub requested : (name : List ℕ) → Option Lac → TunnelsState → Came → ControlMessage → Outcome
requested name lac t came m = requested_by name lac t came m (find (is_again came.from (assigned_tunnel (secret_of lac) m.avps)) t.places)

-- what a control message does to the tunnels of a gateway with this Host Name
unfoldable pub hear : (name : List ℕ) → List Lac → TunnelsState → Came → ControlMessage → Outcome
hear name lacs t came m =
    if m.tunnel == 0
    then (if is_type (message_type m.avps) SCCRQ then requested name (lac_of lacs came.from.ip) t came m else outcome NoRequest t)
    else heard_by t came m (find (is_named came.from m.tunnel) t.places)
