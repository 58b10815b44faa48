-- A frame of another protocol, by RFC 1661 section 5.7.
use Rattle.std.specs.Prelude.{ℕ, List, take, Bool, ◌||◌, ◌==◌, ◌&&◌, not, true, false, []}
use Rattle.bng_base.specs.PppGrammar.{ControlPacket}
use Rattle.bng_base.specs.declared.settings.AuthKind.{AuthKind}
use Rattle.bng_base.specs.declared.settings.AuthKind.TheVariants.{Chap, Pap}
use Rattle.bng_ppp_wire.specs.declared.code.TheConstants.{PROTOCOL_REJECT}
use Rattle.bng_ppp_wire.specs.declared.protocol.TheConstants as protocol
use Rattle.bng_ppp.specs.Automaton.{Doing}
use Rattle.bng_ppp.specs.Encapsulation.{sent}
use Rattle.bng_ppp.specs.Identifiers.{next_of}
use Rattle.bng_ppp.specs.LcpState.{LcpState, is_opened}
use Rattle.bng_ppp.specs.MaximumReceiveUnit.{body_most}
use Rattle.bng_ppp.specs.Said.{quiet}

-- a Protocol-Reject has the rejected frame from its protocol on, cut to the peer's MRU
abbrev pub protocol_reject : LcpState → List ℕ → ControlPacket
protocol_reject s octets = record { code = PROTOCOL_REJECT; id = s.kept.ids.next; body = take (body_most s.kept) octets }

abbrev pub protocol_of : AuthKind → ℕ
protocol_of Chap = protocol.CHAP
protocol_of Pap = protocol.PAP

-- IPCP, IPv4 and the protocol by which the peer authenticates itself
abbrev pub passes_over : AuthKind → ℕ → Bool
passes_over auth n = n == protocol.IPCP || n == protocol.IPV4 || n == protocol_of auth

-- a protocol that is rejected: LCP is Opened, and it is none of these
abbrev pub is_rejected : LcpState → ℕ → Bool
is_rejected s n = is_opened s.lcp.state && not (passes_over s.ask.wanted.auth n)

-- a frame of another protocol
abbrev pub hears_other : Bool → List ℕ → LcpState → Doing
hears_other false octets s = record { link = s; said = quiet }
hears_other true octets s = record {
  link = record s { kept = record s.kept { ids = record s.kept.ids { next = next_of s.kept.ids.next } } };
  said = record quiet { outs = sent protocol.LCP (protocol_reject s octets) [] };
}
