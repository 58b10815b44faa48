-- What a receive takes of a socket.
use Rattle.std.specs.Prelude.{◌≡◌, ◌≤◌, ℕ, Bool, true, false, List, Option, Some, length, take, nat_lt}
use Rattle.std.specs.declared.io.ErrorKind.{ErrorKind}
use Rattle.std.specs.declared.io.ErrorKind.TheVariants.{ConnectionRefused, HostUnreachable, NetworkUnreachable}
use Rattle.std.specs.declared.net.socket_addr.SocketAddr.{SocketAddr}
use Rattle.bng_base.specs.declared.address.Peer.{Peer}
use Rattle.bng_base.specs.declared.outside.Received.{Received}
use Rattle.bng_base.specs.declared.outside.Received.TheVariants.{Got, Empty, Failed}
use Rattle.bng_base.specs.Told.{Grows}
use Rattle.bng_real.specs.declared.taking.SystemReceive.{SystemReceive}
use Rattle.bng_real.specs.declared.taking.SystemReceive.TheVariants.{Datagram, Nothing, Fault}
use Rattle.bng_real.specs.Ends.{peer_at}
use Rattle.bng_real.specs.Sockets.{Parcel, one}

-- the socket gave one datagram more: these octets, of this sender
pub record Gives (old new : Option (List Parcel)) (from : Peer) (octets : List ℕ) : Type 0 where
  pub end : SocketAddr
  pub sender : peer_at end ≡ Some from
  pub given : Grows old new (one end octets)

-- What is taken is the next datagram that the socket gave, with its sender; its octets stand first in the room. Where nothing
-- is there the socket gave none.
abbrev pub IsNext : SystemReceive → List ℕ → Option (List Parcel) → Option (List Parcel) → Type 0
IsNext (Datagram count from) room old new = (count ≤ length room) × Gives old new from (take count room)
IsNext Nothing room old new = new ≡ old
IsNext Fault room old new = Unit {0}

-- the payload is the datagram that the socket gave, of a longer one than 4,096 octets the front, which is what `cut` says
pub record IsFront (payload : List ℕ) (from : Peer) (cut : Bool) (old new : Option (List Parcel)) : Type 0 where
  pub octets : List ℕ
  pub gives : Gives old new from octets
  pub front : payload ≡ take 4096 octets
  pub longer : cut ≡ nat_lt 4096 (length octets)

-- what a receive answers, by what the socket gave
abbrev pub IsTaken : Received → List ℕ → Option (List Parcel) → Option (List Parcel) → Type 0
IsTaken (Got from cut) payload old new = IsFront payload from cut old new
IsTaken Empty payload old new = new ≡ old
IsTaken Failed payload old new = Unit {0}

-- the errors by which the system may tell of a datagram that was sent before: of ICMP messages (RFC 1122 section 4.1.3.3)
abbrev pub is_earlier : ErrorKind → Bool
is_earlier ConnectionRefused = true
is_earlier HostUnreachable = true
is_earlier NetworkUnreachable = true
is_earlier _ = false
