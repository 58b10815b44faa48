-- A packet of an unknown code, by RFC 1661 section 5.6.
use Rattle.std.specs.Prelude.{take}
use Rattle.bng_base.specs.PppGrammar.{ControlPacket, packet_text}
use Rattle.bng_ppp_wire.specs.declared.code.TheConstants.{CODE_REJECT}
use Rattle.bng_ppp.specs.LcpState.{LcpState}
use Rattle.bng_ppp.specs.MaximumReceiveUnit.{body_most}

-- a Code-Reject has the rejected packet, cut to the peer's MRU
abbrev pub code_reject : LcpState → ControlPacket → ControlPacket
code_reject s p = record { code = CODE_REJECT; id = s.kept.ids.next; body = take (body_most s.kept) (packet_text p) }
