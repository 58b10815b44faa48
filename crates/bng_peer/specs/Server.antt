-- What the RADIUS server answers, before it is signed (RFC 2865 section 4.2, RFC 2866 section 4.2).
use Rattle.std.specs.Prelude.{ℕ, List, [], ◌∷◌, codes}
use Rattle.byteorder.specs.Endian.{big_bytes}
use Rattle.bng_radius_wire.specs.Attributes.{Field}
use Rattle.bng_radius_wire.specs.Grammar.{Packet, IsRadius}
use Rattle.bng_radius_wire.specs.Digests.{zeros, signed_reply}

abbrev attribute : (kind number : ℕ) → Field
attribute kind number = record { kind = kind; value = big_bytes 4 number }

-- an Access-Accept with the Service-Type Framed (RFC 2865 section 5.6) and an Acct-Interim-Interval of 600 seconds (RFC
-- 2869 section 5.16)
abbrev pub access_accept : ℕ → Packet
access_accept id = record { code = 2; id = id; authenticator = zeros; attributes = attribute 6 2 ∷ attribute 85 600 ∷ [] }

-- an Accounting-Response
abbrev pub accounting_response : ℕ → Packet
accounting_response id = record { code = 5; id = id; authenticator = zeros; attributes = [] }

-- the octets are this reply to the request with this authenticator, signed with the secret
abbrev pub IsReply : Packet → List ℕ → List ℕ → Type 0
IsReply p request octets = IsRadius (signed_reply p request (codes "xyzzy5461")) octets
