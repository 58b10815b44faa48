-- Frames that go out, by RFC 1661 sections 2 and 5.
use Rattle.std.specs.Prelude.{ℕ, List, [], ◌∷◌, ◌++◌, Option, Some, None}
use Rattle.bng_base.specs.PppGrammar.{ControlPacket, packet_text, ppp_text}

-- a packet of a protocol goes out after what went out before
abbrev pub sent : ℕ → ControlPacket → List (List ℕ) → List (List ℕ)
sent number p outs = outs ++ ppp_text (record { protocol = number; info = packet_text p }) ∷ []

abbrev pub sent_some : ℕ → Option ControlPacket → List (List ℕ) → List (List ℕ)
sent_some number None outs = outs
sent_some number (Some p) outs = sent number p outs
