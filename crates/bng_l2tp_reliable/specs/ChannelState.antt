-- What a contract sees of one end of a reliable control channel, by RFC 2661 section 5.8. Moments are in milliseconds.
use Rattle.std.specs.Prelude.{ℕ, ◌<◌, ◌≤◌, Bool, false, List, [], length, take, drop, min}
use Rattle.arrayvec.specs.ArrayVec.{ArrayVec}
use Rattle.bng_l2tp_reliable.specs.declared.sent.Sent.{Sent}

-- a control message's octets
abbrev pub Message : Type 0
Message = ArrayVec ℕ

pub record ChannelState : Type 0 where
  -- how many messages may be in flight
  pub window : ℕ
  -- the messages that are not acknowledged, oldest first: those in flight, and then those that wait
  pub messages : List Message
  -- for each message in flight, when it went out last and how often it went out again
  pub sends : List Sent
  -- the Ns of the next message that goes out for the first time
  pub ns : ℕ
  -- the Ns of the message that is expected next, which is the Nr of what goes out
  pub nr : ℕ
  -- when a message came last, or the channel began
  pub heard : ℕ
  -- whether a HELLO was asked for since then
  pub greeted : Bool
  -- the last moment that the channel was given
  pub moment : ℕ

abbrev pub in_flight : ChannelState → List Message
in_flight c = take (length c.sends) c.messages

abbrev pub waiting : ChannelState → List Message
waiting c = drop (length c.sends) c.messages

-- a channel that nothing was sent over, to a peer with that Receive Window Size
abbrev pub begun : ℕ → ℕ → ChannelState
begun window moment =
    record { window = min window 8; messages = []; sends = []; ns = 0; nr = 0; heard = moment; greeted = false; moment = moment }

-- the channel to a peer that turned out to have that Receive Window Size
abbrev pub with_window : ChannelState → ℕ → ChannelState
with_window c window = record c { window = min window 8 }

-- What holds of every channel. A window that was made smaller may be below what is in flight.
pub record IsChannel (c : ChannelState) : Type 0 where
  pub window : c.window ≤ 8
  pub flying : length c.sends ≤ 8
  pub known : length c.sends ≤ length c.messages
  pub few : length (waiting c) ≤ 64
  pub ns : c.ns < 65536
  pub nr : c.nr < 65536
