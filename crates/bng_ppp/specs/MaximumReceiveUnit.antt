-- The peer's Maximum-Receive-Unit, by RFC 1661 section 6.1.
use Rattle.std.specs.Prelude.{ℕ, ◌-◌, if◌then◌else◌, List, fold}
use Rattle.byteorder.specs.Endian.{big_number}
use Rattle.bng_base.specs.PppGrammar.{PppOption}
use Rattle.bng_lcp.specs.Judgement.{is_mru}
use Rattle.bng_ppp.specs.declared.counters.Kept.{Kept}

-- the octets that the body of a packet has at most for the peer
abbrev pub body_most : Kept → ℕ
body_most k = k.mru - 4

-- a request's MRU is the one that it lists, else the limit
abbrev pub mru_with : ℕ → PppOption → ℕ
mru_with mru o = if is_mru o then big_number 2 o.value else mru

abbrev pub mru_of : ℕ → List PppOption → ℕ
mru_of limit options = fold mru_with limit options
