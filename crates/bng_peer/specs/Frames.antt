-- What the PPP frames of the subscribers carry.
use Rattle.std.specs.Prelude.{ℕ, List}
use Rattle.bng_base.specs.declared.ipv4.Ipv4.{Ipv4}
use Rattle.bng_base.specs.Ipv4Grammar.{IsIpv4}
use Rattle.bng_base.specs.PppGrammar.{ControlPacket, IsControlPacket, IsPpp}

-- a packet of a control protocol
abbrev pub IsControlFrame : ℕ → ControlPacket → List ℕ → Type 0
IsControlFrame protocol packet octets = (text : List ℕ) × IsPpp (record { protocol = protocol; info = text }) octets × IsControlPacket packet text

-- an IPv4 packet
abbrev pub IsPacketFrame : Ipv4 → List ℕ → Type 0
IsPacketFrame v octets = (text : List ℕ) × IsPpp (record { protocol = 33; info = text }) octets × IsIpv4 v text
