-- What passes a socket.
use Rattle.std.specs.Prelude.{ℕ, List, [], ◌∷◌}
use Rattle.std.specs.declared.net.socket_addr.SocketAddr.{SocketAddr}

-- a datagram: its other end, and its octets
pub record Parcel : Type 0 where
  pub end : SocketAddr
  pub octets : List ℕ

-- this one datagram
abbrev pub one : SocketAddr → List ℕ → List Parcel
one end octets = record { end = end; octets = octets } ∷ []
