-- The datagrams of a tunnel, by RFC 2661 sections 3.1 and 5.8.
use Rattle.std.specs.Prelude.{◌≡◌, ℕ, zero, suc, ◌+◌, nat_lt, if◌then◌else◌, List, [], ◌∷◌, ◌++◌, length, take, drop, map, option_to_list}
use Rattle.byteorder.specs.Endian.{big_bytes}
use Rattle.bng_l2tp_reliable.specs.declared.outgoing.Outgoing.{Outgoing}
use Rattle.bng_l2tp_reliable.specs.ChannelState.{ChannelState, Message, waiting}
use Rattle.bng_l2tp_reliable.specs.Numbers.{steps_on}
use Rattle.bng_l2tp_reliable.specs.Calls.{numbered, next_out, after_next, flight_at}
use Rattle.bng_l2tp_wire.specs.Messages.{control_text}
use Rattle.bng_l2tp_tunnel.specs.declared.acknowledging.Acknowledging.{Acknowledging}
use Rattle.bng_l2tp_tunnel.specs.declared.acknowledging.Acknowledging.TheVariants.{Never, ByAny, ByZlb}

-- a text with these octets written over those at a place
abbrev pub overwritten : ℕ → List ℕ → List ℕ → List ℕ
overwritten at octets text = take at text ++ octets ++ drop (at + length octets) text

-- The text of a control message with this Tunnel ID, Ns and Nr. Tunnel ID stands at octet 4, and Ns and Nr from octet 8 on.
abbrev pub with_numbers : (tunnel ns nr : ℕ) → List ℕ → List ℕ
with_numbers tunnel ns nr text = overwritten 8 (big_bytes 2 ns ++ big_bytes 2 nr) (overwritten 4 (big_bytes 2 tunnel) text)

-- A message of the channel as it goes out to a tunnel of the peer. Octets that are too few for a header go out as they are.
unfoldable pub datagram : ℕ → Outgoing → List ℕ
datagram tunnel o =
    if nat_lt (length o.message.items) 12 then o.message.items else with_numbers tunnel o.ns o.nr o.message.items

-- the channel after it was asked so often for the next message that the window lets out
unfoldable pub after_out : ℕ → ChannelState → ChannelState
after_out zero c = c
after_out (suc n) c = after_next (after_out n c) (next_out (after_out n c))

-- the messages that it let out
unfoldable pub let_out : ℕ → ChannelState → List Outgoing
let_out zero c = []
let_out (suc n) c = let_out n c ++ option_to_list (next_out (after_out n c))

-- messages with the numbers that follow on those that went out before
abbrev pub numbered_on : ChannelState → ℕ → List Message → List Outgoing
numbered_on c before [] = []
numbered_on c before (m ∷ ms) = numbered c (steps_on c.ns before) m ∷ numbered_on c (before + 1) ms

-- they are the first of the messages that wait, numbered on
abbrev pub AreFirstWaiting : ChannelState → List Outgoing → Type 0
AreFirstWaiting c outs = outs ≡ numbered_on c 0 (take (length outs) (waiting c))

-- how many messages are in flight at most: after as many the window lets out none
abbrev pub flight_most : ℕ
flight_most = 8

-- the messages in flight before a place, oldest first
unfoldable pub flight_before : ℕ → ChannelState → List Outgoing
flight_before zero c = []
flight_before (suc n) c = flight_before n c ++ option_to_list (flight_at c n)

-- a message without AVPs, which only acknowledges
abbrev pub zlb : ℕ → ChannelState → List ℕ
zlb tunnel c = control_text (record { tunnel = tunnel; session = 0; ns = c.ns; nr = c.nr; avps = [] })

-- what goes out, and a ZLB where nothing does
abbrev pub or_zlb : ℕ → ChannelState → List (List ℕ) → List (List ℕ)
or_zlb tunnel c [] = zlb tunnel c ∷ []
or_zlb tunnel c (o ∷ os) = o ∷ os

-- What goes out, and the ZLB that is due besides. Each message acknowledges as well as a ZLB.
abbrev pub with_zlb : Acknowledging → ℕ → ChannelState → List (List ℕ) → List (List ℕ)
with_zlb Never tunnel c outs = outs
with_zlb ByAny tunnel c outs = or_zlb tunnel c outs
with_zlb ByZlb tunnel c outs = outs ++ zlb tunnel c ∷ []

-- the datagrams that go out to a tunnel of the peer: the messages that the window lets out, and then the ZLB
abbrev pub outs_of : Acknowledging → ℕ → ChannelState → List (List ℕ)
outs_of acknowledging tunnel c = with_zlb acknowledging tunnel (after_out flight_most c) (map (datagram tunnel) (let_out flight_most c))
