-- The data message of a call that carries a packet.
use Rattle.std.specs.Prelude.{◌≡◌, ℕ, List}
use Rattle.bng_base.specs.PppGrammar.{ppp_text}
use Rattle.bng_l2tp_wire.specs.Messages.{DataMessage, IsData, data_text}
use Rattle.bng_lns.specs.Datagrams.{CarriesOver}

abbrev pub call_message : (tunnel session : ℕ) → List ℕ → DataMessage
call_message tunnel session ppp = record { tunnel = tunnel; session = session; ppp = ppp }

-- to a tunnel and a session of the peer, without flags, begun by Address and Control, as PPP protocol 0021 (RFC 2661 section 3.1, RFC 1332)
abbrev pub call_frame : (tunnel session : ℕ) → List ℕ → List ℕ
call_frame tunnel session packet = data_text (call_message tunnel session (ppp_text (record { protocol = 33; info = packet })))

-- Whoever reads the octets by the grammar finds a data message to this tunnel and this session that carries the packet.
pub record IsCallFrameTo (tunnel session : ℕ) (packet octets : List ℕ) : Type 0 where
  pub message : DataMessage
  pub read : IsData message octets
  pub tunnel_is : message.tunnel ≡ tunnel
  pub session_is : message.session ≡ session
  pub carries : CarriesOver message packet
