-- The AVPs of a control message, by RFC 2661 section 4.1. Numbers have their most significant octet first.
use Rattle.std.specs.Prelude.{◌≡◌, ℕ, ◌+◌, ◌*◌, ◌<◌, Bool, cond, List, ◌++◌, length}
use Rattle.std.specs.List.{flat_map}
use Rattle.byteorder.specs.Endian.{big_bytes}
use Rattle.bng_base.specs.Pieces.{ArePieces}

-- what an AVP says: M, H, the four reserved bits, its Vendor ID, its Attribute Type and its Attribute Value
pub record L2tpAvp : Type 0 where
  pub mandatory : Bool
  pub hidden : Bool
  pub reserved : ℕ
  pub vendor : ℕ
  pub kind : ℕ
  pub value : List ℕ

abbrev pub bit : Bool → ℕ
bit set = cond set 1 0

-- M, H, the reserved bits, and Length in ten bits, which counts the whole AVP
abbrev pub first_word : L2tpAvp → ℕ
first_word a = 32768 * bit a.mandatory + 16384 * bit a.hidden + 1024 * a.reserved + (6 + length a.value)

abbrev pub avp_text : L2tpAvp → List ℕ
avp_text a = big_bytes 2 (first_word a) ++ big_bytes 2 a.vendor ++ big_bytes 2 a.kind ++ a.value

-- each field fits its bits
pub record AvpFits (a : L2tpAvp) : Type 0 where
  pub reserved : a.reserved < 16
  pub size : 6 + length a.value < 1024
  pub vendor : a.vendor < 65536
  pub kind : a.kind < 65536

-- the bytes begin with the AVP, and these stand after it
pub record Begins (a : L2tpAvp) (rest bytes : List ℕ) : Type 0 where
  pub fits : AvpFits a
  pub spelled : bytes ≡ avp_text a ++ rest

-- the bytes begin with the AVP
abbrev pub IsAvp : L2tpAvp → List ℕ → Type 0
IsAvp a bytes = (rest : List ℕ) × Begins a rest bytes

-- the bytes are these AVPs, one after the other, and nothing else
abbrev pub AreAvps : List L2tpAvp → List ℕ → Type 0
AreAvps avps bytes = ArePieces AvpFits avp_text avps bytes

-- the one spelling of a list of AVPs
abbrev pub avps_text : List L2tpAvp → List ℕ
avps_text avps = flat_map avp_text avps
