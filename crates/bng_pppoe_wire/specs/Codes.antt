-- Codes of PPPoE frames. Those of PADI, PADO and PADR stand with the grammar.
use Rattle.std.specs.Prelude.{ℕ}
pub use Rattle.bng_base.specs.PppoeGrammar.{padi, pado, padr}

-- RFC 2516 section 5.4
abbrev pub pads : ℕ
pads = 0x65

-- RFC 2516 section 5.5
abbrev pub padt : ℕ
padt = 0xa7

-- RFC 2516 section 6
abbrev pub session_data : ℕ
session_data = 0x00
