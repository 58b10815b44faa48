-- What an entry did.
use Rattle.std.specs.Prelude.{ℕ, ◌==◌, Bool, true, false, ◌&&◌, List, [], ◌∷◌, Option, None, map, nat_le, length, if◌then◌else◌}
use Rattle.bng_base.specs.declared.address.Peer.{Peer}
use Rattle.bng_base.specs.declared.fate.Fate.{Fate}
use Rattle.bng_base.specs.declared.fate.DropCause.{DropCause}
use Rattle.bng_base.specs.declared.fate.Fate.TheVariants.{Forwarded, Consumed, Dropped}
use Rattle.bng_base.specs.declared.item.Charge.{Charge}
use Rattle.bng_base.specs.declared.item.Entry.{Entry}
use Rattle.bng_base.specs.declared.item.OutRecord.{OutRecord}
use Rattle.bng_base.specs.declared.outside.Role.{Role}
use Rattle.bng_base.specs.declared.outside.Role.TheVariants.{Access, Tunnel}
use Rattle.bng_base.specs.declared.settings.AccessPort.{AccessPort}
use Rattle.bng_base.specs.declared.frame.TheConstants.{LONGEST}
use Rattle.bng_base.specs.FateOf.{Arrival}
use Rattle.bng_base.specs.PppoeGrammar.{PppoeFrame, pppoe_text}
use Rattle.bng_base.specs.declared.item.At.{At}
use Rattle.bng_steps.specs.State.{Beside, State, beside_at}

-- an entry, its fate before its sends, what is to be sent for it in this order, and the state that it leaves
pub record Deed : Type 0 where
  pub entry : Entry
  pub fate : Fate
  pub outs : List OutRecord
  pub next : State

-- whose outs they are: an entry of a shard
abbrev pub at_of : State → Entry → At
at_of s e = record { shard = s.sessions.shard; seat = e.seat; place = e.place }

-- what a session's link works with at an entry, beside the session
abbrev pub beside_of : State → Entry → Beside
beside_of s e = beside_at e.moment s.question_count s.tunnels

-- a datagram that an entry has to send
abbrev pub out : At → Role → Peer → List ℕ → Option Charge → OutRecord
out a role to octets charge = record {
  shard = a.shard;
  seat = a.seat;
  place = a.place;
  role = role;
  to = to;
  frame = octets;
  charge = charge;
  sent = false;
}

-- its addresses have six octets each, as every MAC of the gateway has
abbrev pub has_macs : PppoeFrame → Bool
has_macs p = (length p.dst.0 == 6) && (length p.src.0 == 6)

-- a frame to a host of the port with this number; one that no datagram of 4,096 octets holds is not sent
abbrev pub frame_outs : At → ℕ → AccessPort → PppoeFrame → List OutRecord
frame_outs a number port p = if has_macs p && nat_le (length (pppoe_text p)) LONGEST then out a (Access number) port.peer (pppoe_text p) None ∷ [] else []

-- datagrams to the peer of a tunnel, in this order
abbrev pub tunnel_outs : At → Peer → List (List ℕ) → List OutRecord
tunnel_outs a to frames = map (λ (f : List ℕ). out a Tunnel to f None) frames

-- what was handled goes on, if it is sent
abbrev pub is_forwarded : Fate → Bool
is_forwarded Forwarded = true
is_forwarded Consumed = false
is_forwarded (Dropped cause) = false

-- nothing is sent, and the state is as before
abbrev pub only : State → Entry → Fate → Deed
only s e fate = record { entry = e; fate = fate; outs = []; next = s }

abbrev pub ignored : State → Entry → Deed
ignored s e = only s e Consumed

abbrev pub dropped : State → Entry → DropCause → Deed
dropped s e cause = only s e (Dropped cause)

-- handled by a protocol, which sends these
abbrev pub handled : State → Entry → List OutRecord → State → Deed
handled s e outs next = record { entry = e; fate = Consumed; outs = outs; next = next }

-- the datagram of an entry
abbrev pub arrival_in : Entry → Arrival
arrival_in e = record { from = e.item.from; cut = e.item.cut; octets = e.item.frame.payload }
