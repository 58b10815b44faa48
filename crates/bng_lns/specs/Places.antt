-- The places of a shard's tunnels. Each is for one tunnel number, and has the tunnel with that number, or the one that had it last. Moments are
-- in milliseconds.
use Rattle.std.specs.Prelude.{◌≡◌, ℕ, ◌+◌, ◌*◌, ◌<◌, ◌≤◌, Bool, false, ◌&&◌, not, ◌==◌, nat_le, nat_lt, if◌then◌else◌, List, [], ◌∷◌, ◌++◌, length, map, slice_set, min, Option, Some, None}
use Rattle.bng_base.specs.declared.address.Peer.{Peer}
use Rattle.bng_l2tp_reliable.specs.Timers.{never, deadline_of}
use Rattle.bng_l2tp_tunnel.specs.TunnelState.{TunnelState}
use Rattle.bng_l2tp_tunnel.specs.Steps.{stands}
use Rattle.bng_l2tp_tunnel.specs.Sound.{IsTunnel}
use Rattle.bng_lns.specs.declared.place.TunnelPlace.{TunnelPlace}

-- The tunnel numbers of a shard: 1,024 times its number, and an index of 1 to 16. The first place has the index 1.
abbrev pub number_at : (shard k : ℕ) → ℕ
number_at shard k = shard * 1024 + 1 + k

-- The number may be given: no tunnel has it, and 31 s have passed since the one that had it last was cleared. By then the peer sends nothing to it
-- any more (RFC 2661 section 5.7).
abbrev pub is_free : ℕ → TunnelPlace → Bool
is_free now p = not (stands p.tunnel.phase) && nat_le (p.since + 31000) now

-- the tunnel with this number
abbrev pub is_numbered : ℕ → TunnelPlace → Bool
is_numbered number p = stands p.tunnel.phase && p.tunnel.number == number

abbrev pub same_peer : Peer → Peer → Bool
same_peer a b = a.ip.0 == b.ip.0 && a.port == b.port

-- the tunnel with this number, of this peer
abbrev pub is_named : Peer → ℕ → TunnelPlace → Bool
is_named from number p = is_numbered number p && same_peer p.tunnel.peer from

abbrev pub is_number : Option ℕ → ℕ → Bool
is_number None number = false
is_number (Some found) number = found == number

-- the tunnel of this peer with this Assigned Tunnel ID
abbrev pub is_again : Peer → Option ℕ → TunnelPlace → Bool
is_again from None p = false
is_again from (Some id) p = stands p.tunnel.phase && same_peer p.tunnel.peer from && is_number p.tunnel.peer_number id

-- a tunnel that took its last step at this moment
abbrev pub place_of : ℕ → TunnelState → TunnelPlace
place_of now t = record { tunnel = t; since = now }

-- the tunnel with this number took a step at this moment
abbrev pub stepped : (now number : ℕ) → TunnelState → List TunnelPlace → List TunnelPlace
stepped now number after places = map (λ p. if is_numbered number p then place_of now after else p) places

-- a place is taken: one of those that there are, or else the next
abbrev pub put_at : ℕ → TunnelPlace → List TunnelPlace → List TunnelPlace
put_at k p places = if nat_lt k (length places) then slice_set places k p else places ++ p ∷ []

-- the first moment at which the timers of the tunnel ask for something; never, where none stands
abbrev pub deadline_in : TunnelPlace → ℕ
deadline_in p = if stands p.tunnel.phase then deadline_of p.tunnel.channel else never

-- the earliest of them
abbrev pub earliest : List TunnelPlace → ℕ
earliest [] = never
earliest (p ∷ places) = min (deadline_in p) (earliest places)

-- the timers of the tunnel ask for something at this moment
abbrev pub is_due : ℕ → TunnelPlace → Bool
is_due now p = stands p.tunnel.phase && nat_le (deadline_of p.tunnel.channel) now

-- the place has this number
pub record IsPlace (number : ℕ) (p : TunnelPlace) : Type 0 where
  pub number_is : p.tunnel.number ≡ number
  pub sound : IsTunnel p.tunnel

-- the places have the numbers from this one on
abbrev pub ArePlaces : ℕ → List TunnelPlace → Type 0
ArePlaces number [] = Unit {0}
ArePlaces number (p ∷ places) = IsPlace number p × ArePlaces (number + 1) places

-- at most 16 places, for which there is room
pub record IsKept (shard : ℕ) (places : List TunnelPlace) (room : ℕ) : Type 0 where
  pub low : shard < 64
  pub few : length places ≤ 16
  pub fits : 16 ≤ room
  pub are : ArePlaces (number_at shard 0) places
