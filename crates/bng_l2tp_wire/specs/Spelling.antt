-- How the gateway spells the AVPs of its control messages, by RFC 2661 sections 4.1 and 4.4.2. Numbers have their most significant octet first.
use Rattle.std.specs.Prelude.{ℕ, true, false, List, [], ◌++◌, Option, Some, None}
use Rattle.byteorder.specs.Endian.{big_bytes}
use Rattle.bng_l2tp_wire.specs.Avps.{L2tpAvp}
use Rattle.bng_l2tp_wire.specs.Messages.{ControlMessage}
use Rattle.bng_l2tp_wire.specs.declared.result_code.ResultCode.{ResultCode}

-- an AVP that must be known to the peer, and is not hidden
abbrev pub avp : ℕ → List ℕ → L2tpAvp
avp kind value = record { mandatory = true; hidden = false; reserved = 0; vendor = 0; kind = kind; value = value }

abbrev pub number_avp : ℕ → ℕ → L2tpAvp
number_avp kind number = avp kind (big_bytes 2 number)

-- A message for a session of the peer before it goes out: the peer's tunnel and the two sequence numbers are filled in as it does.
abbrev pub unsent : ℕ → List L2tpAvp → ControlMessage
unsent session avps = record { tunnel = 0; session = session; ns = 0; nr = 0; avps = avps }

abbrev pub result_only : ℕ → ResultCode
result_only code = record { code = code; error = None }

-- a general error, which the Error Code tells
abbrev pub general_error : ℕ → ResultCode
general_error error = record { code = 2; error = Some error }

abbrev pub error_octets : Option ℕ → List ℕ
error_octets None = []
error_octets (Some error) = big_bytes 2 error

-- a Result Code, and an Error Code where it has one (section 4.4.2)
abbrev pub code_octets : ResultCode → List ℕ
code_octets c = big_bytes 2 c.code ++ error_octets c.error
