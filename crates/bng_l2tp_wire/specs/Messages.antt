-- L2TP messages by RFC 2661 section 3.1. Octets are counted from 0, and numbers have their most significant octet first. The
-- bits of the first two octets that are named x there are reserved, and ignored.
use Rattle.std.specs.Prelude.{◌≡◌, ℕ, ◌+◌, ◌*◌, ◌/◌, ◌%◌, ◌≤◌, ◌==◌, ◌&&◌, cond, List, [], ◌∷◌, ◌++◌, length, drop, slice_index, slice_range}
use Rattle.byteorder.specs.Endian.{big_from, big_bytes}
use Rattle.bng_l2tp_wire.specs.Avps.{L2tpAvp, AreAvps, avps_text}

-- T of the first octet: a control message
abbrev pub type_bit : ℕ → ℕ
type_bit flags = flags / 128

-- L: Length is there
abbrev pub length_bit : ℕ → ℕ
length_bit flags = flags / 64 % 2

-- S: Ns and Nr are there
abbrev pub sequence_bit : ℕ → ℕ
sequence_bit flags = flags / 8 % 2

-- O: Offset Size is there
abbrev pub offset_bit : ℕ → ℕ
offset_bit flags = flags / 2 % 2

-- P: a data message is to be preferred
abbrev pub priority_bit : ℕ → ℕ
priority_bit flags = flags % 2

-- Ver, the low four bits of the second octet
abbrev pub version_of : ℕ → ℕ
version_of octet = octet % 16

-- what a control message says
pub record ControlMessage : Type 0 where
  pub tunnel : ℕ
  pub session : ℕ
  pub ns : ℕ
  pub nr : ℕ
  pub avps : List L2tpAvp

-- the first octet of a control message: T, L and S are set, and neither O nor P
pub record HasControlBits (flags : ℕ) : Type 0 where
  pub type : type_bit flags ≡ 1
  pub len : length_bit flags ≡ 1
  pub sequence : sequence_bit flags ≡ 1
  pub offset : offset_bit flags ≡ 0
  pub priority : priority_bit flags ≡ 0

-- The bytes begin with a control message: the flags and the version 2, Length, which counts the whole message, Tunnel ID,
-- Session ID, Ns, Nr, and AVPs to its end. The octets past Length are padding.
pub record IsControl (m : ControlMessage) (bytes : List ℕ) : Type 0 where
  pub bits : HasControlBits (slice_index bytes 0)
  pub version : version_of (slice_index bytes 1) ≡ 2
  pub at_least : 12 ≤ big_from 2 2 bytes
  pub is_there : big_from 2 2 bytes ≤ length bytes
  pub tunnel : m.tunnel ≡ big_from 4 2 bytes
  pub session : m.session ≡ big_from 6 2 bytes
  pub ns : m.ns ≡ big_from 8 2 bytes
  pub nr : m.nr ≡ big_from 10 2 bytes
  pub avps : AreAvps m.avps (slice_range bytes 12 (big_from 2 2 bytes))

-- the one spelling of a control message, which has no padding
abbrev pub control_header : ControlMessage → List ℕ
control_header m =
    (200 ∷ 2 ∷ []) ++ big_bytes 2 (12 + length (avps_text m.avps)) ++ big_bytes 2 m.tunnel ++ big_bytes 2 m.session
    ++ big_bytes 2 m.ns ++ big_bytes 2 m.nr

abbrev pub control_text : ControlMessage → List ℕ
control_text m = control_header m ++ avps_text m.avps

-- what a data message says
pub record DataMessage : Type 0 where
  pub tunnel : ℕ
  pub session : ℕ
  pub ppp : List ℕ

-- where Tunnel ID stands
abbrev pub ids_at : ℕ → ℕ
ids_at flags = 2 + 2 * length_bit flags

-- where the fields end of which the flags tell
abbrev pub fields_end : ℕ → ℕ
fields_end flags = ids_at flags + 4 + 4 * sequence_bit flags + 2 * offset_bit flags

-- how many octets are passed over after Offset Size, the last of the fields
abbrev pub passed_over : List ℕ → ℕ
passed_over bytes = cond (offset_bit (slice_index bytes 0) == 1) (big_from (ids_at (slice_index bytes 0) + 4 + 4 * sequence_bit (slice_index bytes 0)) 2 bytes) 0

-- where the payload begins
abbrev pub starts_at : List ℕ → ℕ
starts_at bytes = fields_end (slice_index bytes 0) + passed_over bytes

-- where the message ends: at its Length, or else with the bytes
abbrev pub ends_at : List ℕ → ℕ
ends_at bytes = cond (length_bit (slice_index bytes 0) == 1) (big_from 2 2 bytes) (length bytes)

-- a payload without the Address and Control fields of HDLC-like framing (RFC 1662 section 3.1), ff and 03, if it begins with them
abbrev pub bare : List ℕ → List ℕ
bare payload = cond (slice_index payload 0 == 255 && slice_index payload 1 == 3) (drop 2 payload) payload

-- The bytes begin with a data message: version 2, the fields of which the flags tell, and a PPP frame, which has at least the
-- two octets of its protocol. Octets past Length, where it is there, are padding.
pub record IsData (d : DataMessage) (bytes : List ℕ) : Type 0 where
  pub type : type_bit (slice_index bytes 0) ≡ 0
  pub version : version_of (slice_index bytes 1) ≡ 2
  pub tunnel : d.tunnel ≡ big_from (ids_at (slice_index bytes 0)) 2 bytes
  pub session : d.session ≡ big_from (ids_at (slice_index bytes 0) + 2) 2 bytes
  pub within : starts_at bytes ≤ ends_at bytes
  pub is_there : ends_at bytes ≤ length bytes
  pub payload : d.ppp ≡ bare (slice_range bytes (starts_at bytes) (ends_at bytes))
  pub ppp : 2 ≤ length d.ppp

-- the one spelling of a data message: no flags, version 2, Tunnel ID, Session ID, Address and Control, and the PPP frame
abbrev pub data_header : DataMessage → List ℕ
data_header d = (0 ∷ 2 ∷ []) ++ big_bytes 2 d.tunnel ++ big_bytes 2 d.session ++ (255 ∷ 3 ∷ [])

abbrev pub data_text : DataMessage → List ℕ
data_text d = data_header d ++ d.ppp
