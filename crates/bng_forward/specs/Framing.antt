-- The frame of a circuit that carries a packet.
use Rattle.std.specs.Prelude.{◌≡◌, ℕ, false, List}
use Rattle.bng_base.specs.declared.address.Mac.{Mac}
use Rattle.bng_base.specs.declared.settings.AccessPort.{AccessPort}
use Rattle.bng_base.specs.PppGrammar.{ppp_text}
use Rattle.bng_base.specs.PppoeGrammar.{PppoeFrame, IsPppoe, pppoe_text}
use Rattle.bng_forward.specs.Fates.{Carries}

-- a frame of the session stage: its destination, its source, SESSION_ID and payload (RFC 2516 section 6)
abbrev pub session_frame : Mac → Mac → ℕ → List ℕ → PppoeFrame
session_frame dst src session payload =
    record { dst = dst; src = src; discovery = false; code = 0; session = session; payload = payload }

-- from the port's MAC to the subscriber's, in the circuit's session, as PPP protocol 0021 (RFC 1332), without padding
abbrev pub circuit_frame : AccessPort → Mac → ℕ → List ℕ → List ℕ
circuit_frame port mac session packet =
    pppoe_text (session_frame mac port.mac session (ppp_text (record { protocol = 33; info = packet })))

-- Whoever reads the octets by the grammar finds a frame of the session, from the port to the subscriber, that carries
-- the packet.
pub record IsFrameTo (port : AccessPort) (mac : Mac) (session : ℕ) (packet octets : List ℕ) : Type 0 where
  pub frame : PppoeFrame
  pub read : IsPppoe frame octets
  pub destination : frame.dst ≡ mac
  pub source : frame.src ≡ port.mac
  pub number : frame.session ≡ session
  pub carries : Carries frame packet

-- The octets are a frame, with or without padding, that carries this packet.
pub record IsFrameWith (packet octets : List ℕ) : Type 0 where
  pub frame : PppoeFrame
  pub read : IsPppoe frame octets
  pub carries : Carries frame packet
