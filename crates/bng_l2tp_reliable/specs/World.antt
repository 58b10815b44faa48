-- Two ends of a control channel, and a network that may lose, repeat and reorder what it carries.
--
-- The world counts messages without end; packets carry the numbers that the channels give them, modulo 65,536. Each step of an end is the
-- step of its channel.
use Rattle.std.specs.Prelude.{◌≡◌, ℕ, ◌+◌, ◌-◌, ◌≤◌, is_none, List, [], ◌∷◌, ◌++◌, length, take, Option, Some, None, slice_get}
use Rattle.bng_l2tp_reliable.specs.declared.answers.Queued.{Queued}
use Rattle.bng_l2tp_reliable.specs.declared.answers.Queued.TheVariants.{Ok, WindowQueueFull}
use Rattle.bng_l2tp_reliable.specs.declared.answers.Heard.{Heard}
use Rattle.bng_l2tp_reliable.specs.declared.answers.Heard.TheVariants.{Deliver, Repeat, Ahead, Acked}
use Rattle.bng_l2tp_reliable.specs.declared.outgoing.Outgoing.{Outgoing}
use Rattle.bng_l2tp_reliable.specs.ChannelState.{ChannelState, Message, begun, waiting, with_window}
use Rattle.bng_l2tp_reliable.specs.Calls.{queued_of, queued, heard_of, received, next_out, after_next, flight_at}
use Rattle.bng_l2tp_reliable.specs.Timers.{due_of, after_due}

-- a packet that was sent
pub record Packet : Type 0 where
  pub ns : ℕ
  pub nr : ℕ
  -- the message; a ZLB has none
  pub message : Option Message
  -- how many messages had gone out for the first time by then, from its sender and from the other end
  pub from_sender : ℕ
  pub from_other : ℕ

-- one end
pub record End : Type 0 where
  pub channel : ChannelState
  -- each message that the channel took, in order
  pub sent : List Message
  -- each message that was delivered here, in order
  pub delivered : List Message
  -- each packet that ever went out from here
  pub packets : List Packet

pub record World : Type 0 where
  pub left : End
  pub right : End

-- how many messages have gone out for the first time
abbrev pub gone_out : End → ℕ
gone_out e = length e.sent - length (waiting e.channel)

-- the messages that count as acknowledged: those that the channel keeps no longer
abbrev pub acknowledged_of : End → List Message
acknowledged_of e = take (length e.sent - length e.channel.messages) e.sent

-- what an end may do next, or what may happen to it. A packet that never arrives is lost.
pub data Act : Type 0 where
  -- the other end's Receive Window Size comes to be known
  SetsWindow : ℕ → Act
  -- a message is handed to the channel
  Sends : Message → ℕ → Act
  -- the next message that the window lets out goes out
  LetsOut : Act
  -- the message in flight at that place goes out again
  SendsAgain : ℕ → Act
  -- a ZLB goes out
  Acknowledges : Act
  -- the timers are asked what is due
  IsDue : ℕ → Act
  -- a packet arrives, one of all that ever went out from the other end
  Hears : ℕ → ℕ → Act

-- the messages that the channel took, after one was handed to it
abbrev pub with_sent : List Message → Message → Queued → List Message
with_sent sent message Ok = sent ++ message ∷ []
with_sent sent message WindowQueueFull = sent

-- a message goes out, after which the channel is as given
abbrev pub sends_out : End → End → ChannelState → Option Outgoing → End
sends_out e other channel None = e
sends_out e other channel (Some out) =
    let after : End = record e { channel = channel } in
    record after {
      packets = e.packets ++ record {
        ns = out.ns;
        nr = out.nr;
        message = Some out.message;
        from_sender = gone_out after;
        from_other = gone_out other;
      } ∷ [];
    }

-- the messages delivered, after this came
abbrev pub with_delivered : List Message → Option Message → Heard → List Message
with_delivered delivered None heard = delivered
with_delivered delivered (Some message) Deliver = delivered ++ message ∷ []
with_delivered delivered (Some message) Repeat = delivered
with_delivered delivered (Some message) Ahead = delivered
with_delivered delivered (Some message) Acked = delivered

-- a packet arrives, where there is one
abbrev pub hears : End → Option Packet → ℕ → End
hears e None moment = e
hears e (Some p) moment =
    record e {
      channel = received e.channel p.ns p.nr (is_none p.message) moment;
      delivered = with_delivered e.delivered p.message (heard_of e.channel.nr p.ns (is_none p.message));
    }

-- an end after an act, beside the other end
abbrev pub acts : End → End → Act → End
acts e other (SetsWindow window) = record e { channel = with_window e.channel window }
acts e other (Sends message moment) =
    record e { channel = queued e.channel message moment; sent = with_sent e.sent message (queued_of e.channel) }
acts e other LetsOut = sends_out e other (after_next e.channel (next_out e.channel)) (next_out e.channel)
acts e other (SendsAgain place) = sends_out e other e.channel (flight_at e.channel place)
acts e other Acknowledges =
    record e {
      packets = e.packets ++ record {
        ns = e.channel.ns;
        nr = e.channel.nr;
        message = None;
        from_sender = gone_out e;
        from_other = gone_out other;
      } ∷ [];
    }
acts e other (IsDue moment) = record e { channel = after_due e.channel moment (due_of e.channel moment) }
acts e other (Hears which moment) = hears e (slice_get other.packets which) moment

-- what may happen next
pub data Event : Type 0 where
  AtLeft : Act → Event
  AtRight : Act → Event

abbrev pub happens : World → Event → World
happens w (AtLeft act) = record w { left = acts w.left w.right act }
happens w (AtRight act) = record w { right = acts w.right w.left act }

-- a whole run
abbrev pub run : World → List Event → World
run w [] = w
run w (event ∷ events) = run (happens w event) events

-- Since the packet was sent, no more than 32,767 messages have gone out for the first time, counted in either direction.
abbrev pub IsRecentPacket : End → End → Option Packet → Type 0
IsRecentPacket e other None = Unit {0}
IsRecentPacket e other (Some p) = (gone_out other ≤ p.from_sender + 32767) × (gone_out e ≤ p.from_other + 32767)

abbrev pub IsRecent : End → End → Act → Type 0
IsRecent e other (SetsWindow window) = Unit {0}
IsRecent e other (Sends message moment) = Unit {0}
IsRecent e other LetsOut = Unit {0}
IsRecent e other (SendsAgain place) = Unit {0}
IsRecent e other Acknowledges = Unit {0}
IsRecent e other (IsDue moment) = Unit {0}
IsRecent e other (Hears which moment) = IsRecentPacket e other (slice_get other.packets which)

abbrev pub IsRecentEvent : World → Event → Type 0
IsRecentEvent w (AtLeft act) = IsRecent w.left w.right act
IsRecentEvent w (AtRight act) = IsRecent w.right w.left act

-- The premise on the network: each packet that arrives in the run is so recent. The numbers modulo 65,536 need it.
abbrev pub ArriveRecently : World → List Event → Type 0
ArriveRecently w [] = Unit {0}
ArriveRecently w (event ∷ events) = IsRecentEvent w event × ArriveRecently (happens w event) events

-- The oldest message in flight goes out again from an end and arrives, and a ZLB comes back: nothing is lost among these.
abbrev pub exchange : (Act → Event) → (Act → Event) → End → End → ℕ → ℕ → List Event
exchange here there e other arrived arrived' =
    here (SendsAgain 0) ∷ there (Hears (length e.packets) arrived) ∷ there Acknowledges ∷
    here (Hears (length other.packets) arrived') ∷ []

-- an end that has sent nothing, to a peer with that Receive Window Size
abbrev pub new_end : ℕ → ℕ → End
new_end window moment = record { channel = begun window moment; sent = []; delivered = []; packets = [] }

-- both ends before anything happens
abbrev pub start : ℕ → ℕ → ℕ → ℕ → World
start window window' moment moment' = record { left = new_end window moment; right = new_end window' moment' }

abbrev pub IsPrefixOf : List Message → List Message → Type 0
IsPrefixOf xs ys = (rest : List Message) × (xs ++ rest ≡ ys)

-- What was delivered is the beginning of what was sent, and what counts as acknowledged was delivered.
pub record IsReliable (from to : End) : Type 0 where
  pub in_order : IsPrefixOf to.delivered from.sent
  pub acknowledged : IsPrefixOf (acknowledged_of from) to.delivered
