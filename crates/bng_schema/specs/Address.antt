-- The texts of addresses.
use Rattle.std.specs.Prelude.{ℕ, false, ◌/◌, ◌%◌, ◌^◌, List, [], ◌∷◌, ◌++◌, map, codes}
use Rattle.std.specs.Fmt.{decimal, digit_glyph}
use Rattle.std.specs.List.{join_with_byte}
use Rattle.bng_base.specs.declared.address.Ip4.{Ip4}
use Rattle.bng_base.specs.declared.address.Mac.{Mac}
use Rattle.bng_base.specs.declared.address.Peer.{Peer}

abbrev pub dot : ℕ
dot = 46

abbrev pub colon : ℕ
colon = 58

-- four decimal numbers, the most significant octet first, parted by dots (RFC 1123 section 2.1)
abbrev pub address_text : Ip4 → List ℕ
address_text a =
    decimal (a.0 / 2 ^ 24) ++ codes "." ++ decimal (a.0 / 2 ^ 16 % 256) ++ codes "."
    ++ decimal (a.0 / 2 ^ 8 % 256) ++ codes "." ++ decimal (a.0 % 256)

-- an address, a colon and a port
abbrev pub peer_text : Peer → List ℕ
peer_text p = address_text p.ip ++ codes ":" ++ decimal p.port

-- two lower-case hexadecimal digits
abbrev pub octet_text : ℕ → List ℕ
octet_text n = digit_glyph false (n / 16) ∷ digit_glyph false (n % 16) ∷ []

-- six pairs of digits, parted by colons
abbrev pub mac_text : Mac → List ℕ
mac_text m = join_with_byte colon (map octet_text m.0)
