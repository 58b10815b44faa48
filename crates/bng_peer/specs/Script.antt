-- The numbers of the script.
use Rattle.std.specs.Prelude.{ℕ, ◌+◌, ◌/◌, ◌%◌, ◌==◌, Bool, List, [], ◌∷◌}
use Rattle.bng_base.specs.declared.address.Ip4.{Ip4}
use Rattle.bng_base.specs.declared.ipv4.Ipv4.{Ipv4}

-- whether a subscriber comes over L2TP
abbrev pub is_called : ℕ → Bool
is_called i = i % 4 == 3

-- the access concentrator of its call, of two
abbrev pub lac_of : ℕ → ℕ
lac_of i = i / 4 % 2

-- whether it authenticates by PAP; the others by CHAP
abbrev pub is_pap : ℕ → Bool
is_pap i = i % 2 == 1

-- how many packets it sends, and of how many octets
abbrev pub packets_up : ℕ → ℕ
packets_up i = 1 + i % 8

abbrev pub octets_up : ℕ → ℕ
octets_up i = 100 + i % 10

-- how many packets the core sends it, and of how many octets
abbrev pub packets_down : ℕ → ℕ
packets_down i = i % 5

abbrev pub octets_down : ℕ → ℕ
octets_down i = 200 + i % 10

-- whether it ends its link
abbrev pub ends : ℕ → Bool
ends i = i % 2 == 1

-- its Ethernet address, 02:00:00:00:hh:ll
abbrev pub mac_of : ℕ → List ℕ
mac_of i = 2 ∷ 0 ∷ 0 ∷ 0 ∷ (i / 256) ∷ (i % 256) ∷ []

-- the host beyond the core, 192.0.2.1
abbrev pub host : Ip4
host = record { 0 = 3221225985 }

-- a packet of so many octets, whose header has no options and the TTL 64
abbrev pub packet_of : (src dst : Ip4) → ℕ → Ipv4
packet_of src dst octets = record { src = src; dst = dst; ttl = 64; header = 20; total = octets }

-- the packets that it sends, and those that the core sends it
abbrev pub packet_up : ℕ → Ip4 → Ipv4
packet_up i address = packet_of address host (octets_up i)

abbrev pub packet_down : ℕ → Ip4 → Ipv4
packet_down i address = packet_of host address (octets_down i)
