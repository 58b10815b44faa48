-- The attributes that are texts.
use Rattle.std.specs.Prelude.{ℕ, ◌/◌, ◌%◌, ◌^◌, List, [], ◌∷◌, ◌++◌, map, codes}
use Rattle.std.specs.Fmt.{decimal}
use Rattle.std.specs.List.{join_with_byte}
use Rattle.byteorder.specs.Endian.{big_bytes}
use Rattle.hex.specs.Hex.{encode_lower}
use Rattle.bng_base.specs.declared.circuit.Circuit.{Circuit}
use Rattle.bng_base.specs.declared.circuit.Circuit.TheVariants.{Pppoe, L2tp}
use Rattle.bng_base.specs.declared.circuit.TermId.{TermId}

-- Acct-Session-Id (RFC 2866 section 5.5): the second at which the run opened modulo 2^32, the session's number and the
-- term's number, as 8, 4 and 12 lower-case hexadecimal digits
abbrev pub session_id : ℕ → TermId → List ℕ
session_id wall term = encode_lower (big_bytes 4 (wall % 2 ^ 32) ++ big_bytes 2 term.session.0 ++ big_bytes 6 term.serial)

-- Calling-Station-Id (RFC 2865 section 5.31): the octets of a MAC, two lower-case hexadecimal digits each, parted by colons
abbrev pub station_id : List ℕ → List ℕ
station_id mac = join_with_byte 58 (map (λ octet. encode_lower (octet ∷ [])) mac)

-- the octets of an address, in decimal, parted by dots
abbrev pub dotted : ℕ → List ℕ
dotted ip = join_with_byte 46 (decimal (ip / 2 ^ 24) ∷ decimal (ip / 2 ^ 16 % 256) ∷ decimal (ip / 2 ^ 8 % 256) ∷ decimal (ip % 256) ∷ [])

-- NAS-Port-Id (RFC 2869 section 5.17): the port, the MAC and the session's number; or the peer, the tunnel's number and
-- the session's number
abbrev pub port_id : Circuit → List ℕ
port_id (Pppoe port mac session) = codes "p" ++ join_with_byte 47 (decimal port ∷ encode_lower mac.0 ∷ decimal session.0 ∷ [])
port_id (L2tp peer tunnel session) = codes "t" ++ dotted peer.ip.0 ++ codes ":" ++ join_with_byte 47 (decimal peer.port ∷ decimal tunnel.0 ∷ decimal session.0 ∷ [])
