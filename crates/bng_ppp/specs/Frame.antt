-- What the octets of a frame are to the link, by RFC 1661 sections 2 and 5.
use Rattle.std.specs.Prelude.{◌≡◌, ◌≢◌, ℕ, ◌≤◌, ◌<◌, List, length, ⊤}
use Rattle.bng_base.specs.PppGrammar.{PppFrame, ControlPacket, IsPpp, IsControlPacket}
use Rattle.bng_ppp_wire.specs.View.{packet_of}
use Rattle.bng_ppp_wire.specs.declared.protocol.TheConstants as protocol
use Rattle.bng_ppp.specs.declared.frame.FrameKind.{FrameKind}
use Rattle.bng_ppp.specs.declared.frame.FrameKind.TheVariants.{NoFrame, NoPacket, Long, Lcp, Other}

-- What octets are to the link. No datagram has more than 4,096; octets beyond that are passed over.
abbrev pub IsHeard : List ℕ → FrameKind → Type 0
IsHeard octets Long = 4096 < length octets
IsHeard octets NoFrame = (length octets ≤ 4096) × ((f : PppFrame) → ¬ (IsPpp f octets))
IsHeard octets NoPacket = (length octets ≤ 4096) × ((f : PppFrame) × IsPpp f octets × (f.protocol ≡ protocol.LCP) × ((p : ControlPacket) → ¬ (IsControlPacket p f.info)))
IsHeard octets (Lcp p) = (length octets ≤ 4096) × ((f : PppFrame) × IsPpp f octets × (f.protocol ≡ protocol.LCP) × IsControlPacket (packet_of p) f.info)
IsHeard octets (Other n) = (length octets ≤ 4096) × ((f : PppFrame) × IsPpp f octets × (f.protocol ≡ n) × (n ≢ protocol.LCP))

-- the body of a packet of a frame of at most 4,096 octets: the protocol has two, and the header four
abbrev pub IsShort : FrameKind → Type 0
IsShort Long = ⊤
IsShort NoFrame = ⊤
IsShort NoPacket = ⊤
IsShort (Lcp p) = length p.body.now ≤ 4090
IsShort (Other n) = ⊤
