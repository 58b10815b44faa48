-- Types of LCP's configuration options, and their numbers.
use Rattle.std.specs.Prelude.{ℕ}

-- RFC 1661 section 6.1
abbrev pub maximum_receive_unit : ℕ
maximum_receive_unit = 1

-- RFC 1661 section 6.2
abbrev pub authentication_protocol : ℕ
authentication_protocol = 3

-- RFC 1661 section 6.4
abbrev pub magic_number : ℕ
magic_number = 5

-- the smallest Maximum-Receive-Unit that is taken
abbrev pub least_mru : ℕ
least_mru = 128

-- the algorithm MD5 of CHAP, RFC 1994 section 3
abbrev pub chap_with_md5 : ℕ
chap_with_md5 = 5
