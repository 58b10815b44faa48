-- The peer at the address that was made of a peer.
use Rattle.std.proofs.Common.{◌≡◌, ◌<◌, ◌^◌, ℕ, List, Some, ap, ap₂, ◌∙◌, w32}
use Rattle.std.proofs.lemmas.Nat.{from_be_bytes-to_be_bytes_4}
use Rattle.std.specs.Int.{from_be_bytes}
use Rattle.std.specs.Net.Addr.{ipv4_bits, IsIpv4OfBits}
use Rattle.std.specs.declared.net.ipv4_addr.Ipv4Addr.{Ipv4Addr}
use Rattle.bng_base.specs.declared.address.Peer.{Peer}

-- an address that was made of 32 bits has these
pub bits_again : (a : Ipv4Addr) (bits : ℕ) → IsIpv4OfBits a bits → bits < 2 ^ 32 → ipv4_bits a ≡ bits
unfolding ipv4_bits IsIpv4OfBits
bits_again a bits made fits = ap (λ (octets : List ℕ). from_be_bytes w32 octets) made ∙ from_be_bytes-to_be_bytes_4 bits fits

abbrev peer_with : ℕ → ℕ → Peer
peer_with bits port = record { ip = record { 0 = bits }; port = port }

-- a peer is its bits and its port
pub same_peer : (bits port : ℕ) (peer : Peer) → bits ≡ peer.ip.0 → port ≡ peer.port → Some (peer_with bits port) ≡ Some peer
same_peer bits port peer same_bits same_port = ap Some (ap₂ peer_with same_bits same_port)
