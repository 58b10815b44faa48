-- What a channel answers when a message is handed to it, comes or is let out, and what becomes of it, by RFC 2661 section 5.8.
use Rattle.std.specs.Prelude.{ℕ, Bool, false, ◌&&◌, not, ◌==◌, nat_le, nat_lt, [], ◌∷◌, ◌++◌, length, drop, Option, Some, None, slice_get, option_map, if◌then◌else◌}
use Rattle.bng_l2tp_reliable.specs.declared.answers.Queued.{Queued}
use Rattle.bng_l2tp_reliable.specs.declared.answers.Queued.TheVariants.{Ok, WindowQueueFull}
use Rattle.bng_l2tp_reliable.specs.declared.answers.Heard.{Heard}
use Rattle.bng_l2tp_reliable.specs.declared.answers.Heard.TheVariants.{Deliver, Repeat, Ahead, Acked}
use Rattle.bng_l2tp_reliable.specs.declared.outgoing.Outgoing.{Outgoing}
use Rattle.bng_l2tp_reliable.specs.Numbers.{steps_on, steps_to, steps_back}
use Rattle.bng_l2tp_reliable.specs.ChannelState.{ChannelState, Message, in_flight, waiting}
use Rattle.bng_l2tp_reliable.specs.Flight.{sent_first}

-- 64 messages wait
abbrev pub is_full : ChannelState → Bool
is_full c = not (nat_lt (length (waiting c)) 64)

-- whether a message is taken: 64 may wait
abbrev pub queued_of : ChannelState → Queued
queued_of c = if nat_lt (length (waiting c)) 64 then Ok else WindowQueueFull

-- the channel after a message was handed to it
abbrev pub queued : ChannelState → Message → ℕ → ChannelState
queued c message moment =
    record c { messages = if nat_lt (length (waiting c)) 64 then c.messages ++ message ∷ [] else c.messages; moment = moment }

-- the Ns of the oldest message in flight; that of the next message where none is in flight
abbrev pub oldest_ns : ChannelState → ℕ
oldest_ns c = steps_back c.ns (length c.sends)

-- How many messages in flight an Nr acknowledges: those before it. One that is not from the oldest's Ns to the next message's is passed
-- over.
abbrev pub acknowledged : ChannelState → ℕ → ℕ
acknowledged c nr =
    let before = steps_to (oldest_ns c) nr in if nat_le before (length c.sends) then before else 0

-- What a message is by its Ns, where nr is the number that is expected next: that one; the last number received or one of the 32,767 before
-- it; or else one ahead. A ZLB, which is no message, only acknowledges.
abbrev pub heard_of : ℕ → ℕ → Bool → Heard
heard_of nr ns zlb =
    if zlb then Acked
    else (if ns == nr then Deliver
    else (if nat_le (steps_to ns (steps_back nr 1)) 32767 then Repeat else Ahead))

-- the number that is expected next, after that
abbrev pub nr_after : ℕ → ℕ → Bool → ℕ
nr_after nr ns zlb = if not zlb && ns == nr then steps_on nr 1 else nr

-- the channel after a message or a ZLB came with this Ns and Nr
abbrev pub received : ChannelState → ℕ → ℕ → Bool → ℕ → ChannelState
received c ns nr zlb moment =
    record c {
      messages = drop (acknowledged c nr) c.messages;
      sends = drop (acknowledged c nr) c.sends;
      nr = nr_after c.nr ns zlb;
      heard = moment;
      greeted = false;
      moment = moment;
    }

-- a message with the number that it goes out with
abbrev pub numbered : ChannelState → ℕ → Message → Outgoing
numbered c ns message = record { ns = ns; nr = c.nr; message = message }

-- the next message that the window lets out
abbrev pub next_out : ChannelState → Option Outgoing
next_out c =
    if nat_lt (length c.sends) c.window then option_map (numbered c c.ns) (slice_get c.messages (length c.sends)) else None

-- the channel after it let out what it lets out
abbrev pub after_next : ChannelState → Option Outgoing → ChannelState
after_next c None = c
after_next c (Some out) = record c { sends = c.sends ++ sent_first c.moment ∷ []; ns = steps_on c.ns 1 }

-- the message in flight at that place, from 0
abbrev pub flight_at : ChannelState → ℕ → Option Outgoing
flight_at c place = option_map (numbered c (steps_on (oldest_ns c) place)) (slice_get (in_flight c) place)
