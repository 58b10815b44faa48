-- Numbers of protocols in a PPP frame.
use Rattle.std.specs.Prelude.{ℕ}

-- RFC 1332 section 2.1
abbrev pub ipv4 : ℕ
ipv4 = 0x0021

-- RFC 1332 section 2
abbrev pub ipcp : ℕ
ipcp = 0x8021

-- RFC 1661 section 2
abbrev pub lcp : ℕ
lcp = 0xc021

-- RFC 1334 section 2.2
abbrev pub pap : ℕ
pap = 0xc023

-- RFC 1994 section 4
abbrev pub chap : ℕ
chap = 0xc223
