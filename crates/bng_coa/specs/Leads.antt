-- Where the term is that a request names (RFC 5176 section 3).
use Rattle.std.specs.Prelude.{◌==◌, ℕ, List, length, Option, Some, None, find, Result, Ok, Err, if◌then◌else◌}
use Rattle.byteorder.specs.Endian.{big_from, big_number}
use Rattle.hex.specs.declared.error.FromHexError.{FromHexError}
use Rattle.hex.specs.Hex.{decode_sized}
use Rattle.bng_radius_wire.specs.Attributes.{Field}
use Rattle.bng_radius_wire.specs.Grammar.{Packet}
use Rattle.bng_coa.specs.declared.lead.Lead.{Lead}
use Rattle.bng_coa.specs.declared.lead.Lead.TheVariants.{Session, Address, Nowhere}
use Rattle.bng_coa.specs.Kinds.{has_kind}

-- a value of four octets as a number, its first octet the highest (RFC 2865 section 5)
abbrev pub number_of : List ℕ → Option ℕ
number_of value = if length value == 4 then Some (big_number 4 value) else None

-- the session number in the twelve octets of an Acct-Session-Id: the fifth and the sixth
abbrev pub session_from : Result (List ℕ) FromHexError → ℕ
session_from (Ok octets) = big_from 4 2 octets
session_from (Err e) = 0

-- the session number that an Acct-Session-Id names by its 24 hexadecimal digits; any other text names 0, which is no session's
abbrev pub session_in : List ℕ → ℕ
session_in text = session_from (decode_sized text 12)

abbrev pub lead_at : Option ℕ → Lead
lead_at None = Nowhere
lead_at (Some address) = Address (record { 0 = address })

-- an Acct-Session-Id leads to a session, and without one a Framed-IP-Address to whoever holds the address
abbrev pub lead_by : Option Field → Option Field → Lead
lead_by (Some id) address = Session (session_in id.value)
lead_by None (Some address) = lead_at (number_of address.value)
lead_by None None = Nowhere

-- of each of the two the first counts
abbrev pub lead_of : Packet → Lead
lead_of p = lead_by (find (has_kind 44) p.attributes) (find (has_kind 8) p.attributes)

-- the session number that an Acct-Session-Id names, 0 where there is none
abbrev pub target_of : Lead → ℕ
target_of (Session number) = number
target_of (Address address) = 0
target_of Nowhere = 0
