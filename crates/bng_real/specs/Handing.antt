-- What a send hands to a socket.
use Rattle.std.specs.Prelude.{◌≡◌, ◌<◌, ◌⊎◌, ℕ, Bool, true, false, List, Option, length, take}
use Rattle.std.specs.declared.net.socket_addr.SocketAddr.{SocketAddr}
use Rattle.bng_base.specs.Told.{Grows}
use Rattle.bng_real.specs.Sockets.{Parcel, one}

-- the socket took no datagram, or a front alone
abbrev pub IsUnsent : SocketAddr → List ℕ → Option (List Parcel) → Option (List Parcel) → Type 0
IsUnsent end octets old new = (new ≡ old) ⊎ ((n : ℕ) × (n < length octets) × Grows old new (one end (take n octets)))

-- whether the socket took the whole datagram
abbrev pub IsSent : Bool → SocketAddr → List ℕ → Option (List Parcel) → Option (List Parcel) → Type 0
IsSent true end octets old new = Grows old new (one end octets)
IsSent false end octets old new = IsUnsent end octets old new
