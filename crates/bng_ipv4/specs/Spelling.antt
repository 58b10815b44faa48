-- The one spelling of what a header says, by RFC 791 section 3.1: the octets that it does not tell are 0, version and
-- checksum aside.
use Rattle.std.specs.Prelude.{ℕ, ◌+◌, ◌-◌, ◌/◌, List, [], ◌∷◌, ◌++◌, replicate}
use Rattle.byteorder.specs.Endian.{big_bytes}
use Rattle.bng_base.specs.declared.ipv4.Ipv4.{Ipv4}
use Rattle.bng_base.specs.Checksum.{ones_sum}

-- the twenty octets before the options, with this checksum
abbrev pub fields : Ipv4 → ℕ → List ℕ
fields v sum =
    ((64 + v.header / 4) ∷ 0 ∷ []) ++ big_bytes 2 v.total ++ replicate 4 0 ++ (v.ttl ∷ 0 ∷ []) ++ big_bytes 2 sum
    ++ big_bytes 4 v.src.0 ++ big_bytes 4 v.dst.0

-- the header, with this checksum
abbrev pub header : Ipv4 → ℕ → List ℕ
header v sum = fields v sum ++ replicate (v.header - 20) 0

-- the checksum is the complement of the header's sum, its own field taken as 0
unfoldable pub spelling : Ipv4 → List ℕ
spelling v = header v (65535 - ones_sum (header v 0)) ++ replicate (v.total - v.header) 0
