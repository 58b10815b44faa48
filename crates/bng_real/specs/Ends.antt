-- Which peer stands at a socket address.
use Rattle.std.specs.Prelude.{Option, Some, None}
use Rattle.std.specs.declared.net.socket_addr.SocketAddr.{SocketAddr}
use Rattle.std.specs.declared.net.socket_addr.SocketAddr.TheVariants.{V4, V6}
use Rattle.std.specs.Net.Addr.{ipv4_bits}
use Rattle.std.specs.Net.Socket.{v4_ip, v4_port}
use Rattle.bng_base.specs.declared.address.Peer.{Peer}

-- the IPv4 address as 32 bits, its first octet the most significant (RFC 791), and the port; nobody at an IPv6 address
abbrev pub peer_at : SocketAddr → Option Peer
peer_at (V4 a) = Some (record { ip = record { 0 = ipv4_bits (v4_ip a) }; port = v4_port a })
peer_at (V6 a) = None
