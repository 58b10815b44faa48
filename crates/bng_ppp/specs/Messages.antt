-- What a frame that goes out says, and that it reads back as that, by RFC 1661 sections 2 and 5.
use Rattle.std.specs.Prelude.{◌≡◌, ℕ, Bool, true, ◌&&◌, ◌||◌, ◌==◌, nat_le, List}
use Rattle.bng_base.specs.PppGrammar.{ControlPacket, IsPpp, IsControlPacket, packet_text, ppp_text}
use Rattle.bng_ppp_wire.specs.Codes as code
use Rattle.bng_ppp_wire.specs.Protocols as protocol

-- a packet of a protocol, spelled as a frame
abbrev pub frame_text : ℕ → ControlPacket → List ℕ
frame_text number p = ppp_text (record { protocol = number; info = packet_text p })

-- Configure-Request to Echo-Reply (RFC 1661 section 5): the gateway discards by no Discard-Request
abbrev pub is_lcp_code : ℕ → Bool
is_lcp_code c = nat_le code.configure_request c && nat_le c code.echo_reply

-- Configure-Request to Code-Reject (RFC 1332 section 2)
abbrev pub is_ipcp_code : ℕ → Bool
is_ipcp_code c = nat_le code.configure_request c && nat_le c code.code_reject

-- RFC 1334 section 2.2.2
abbrev pub is_pap_code : ℕ → Bool
is_pap_code c = c == code.authenticate_ack || c == code.authenticate_nak

-- RFC 1994 sections 4.1 and 4.2
abbrev pub is_chap_code : ℕ → Bool
is_chap_code c = c == code.challenge || c == code.success || c == code.failure

-- the packets that the gateway writes: their protocol and their code
abbrev pub is_written : ℕ → ℕ → Bool
is_written number c =
    (number == protocol.lcp && is_lcp_code c) || (number == protocol.ipcp && is_ipcp_code c) || (number == protocol.pap && is_pap_code c) || (number == protocol.chap && is_chap_code c)

-- The octets are the text of a packet that the gateway writes, without padding, and what is read of them is that packet.
pub record ReadsBack (octets : List ℕ) : Type 0 where
  pub number : ℕ
  pub packet : ControlPacket
  pub written : is_written number packet.code ≡ true
  pub spelled : octets ≡ frame_text number packet
  pub frame_is : IsPpp (record { protocol = number; info = packet_text packet }) octets
  pub packet_is : IsControlPacket packet (packet_text packet)
