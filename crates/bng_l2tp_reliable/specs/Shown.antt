-- What contracts see of a channel's fields, and what holds of them.
use Rattle.std.specs.List.{AllPairs}
use Rattle.bng_l2tp_reliable.specs.declared.channel.Channel.TheInside.{Inside}
use Rattle.bng_l2tp_reliable.specs.ChannelState.{ChannelState, IsChannel}
use Rattle.bng_l2tp_reliable.specs.Flight.{IsOlder}

abbrev pub shown : Inside → ChannelState
shown c =
    record {
      window = c.window;
      messages = c.messages;
      sends = c.sends.items;
      ns = c.ns;
      nr = c.nr;
      heard = c.heard;
      greeted = c.greeted;
      moment = c.moment;
    }

-- The messages in flight stand in the order in which they went out.
abbrev pub IsKept : Inside → Type 0
IsKept c = IsChannel (shown c) × AllPairs IsOlder c.sends.items
