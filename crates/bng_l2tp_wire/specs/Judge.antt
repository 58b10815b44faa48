-- How a control message is judged by its AVPs, by RFC 2661 sections 4.1 and 4.4.
use Rattle.std.specs.Prelude.{ℕ, Bool, true, false, ◌==◌, ◌&&◌, ◌||◌, not, nat_le, if◌then◌else◌, List, [], ◌∷◌, length, Option, Some, None}
use Rattle.std.specs.List.{list_any}
use Rattle.bng_l2tp_wire.specs.Avps.{L2tpAvp}
use Rattle.bng_l2tp_wire.specs.Values.{is_known, value_of}
use Rattle.bng_l2tp_wire.specs.declared.kind.TheConstants.{RESULT_CODE, FRAMING_CAPABILITIES, HOST_NAME, CALL_SERIAL_NUMBER, FRAMING_TYPE, TX_CONNECT_SPEED}

abbrev pub is_type : Option ℕ → ℕ → Bool
is_type None wanted = false
is_type (Some type) wanted = type == wanted

-- an AVP that is not known and must be
abbrev pub must_be_known : L2tpAvp → Bool
must_be_known a = a.mandatory && not (is_known a)

abbrev pub has_unknown : List L2tpAvp → Bool
has_unknown avps = list_any must_be_known avps

-- the Attribute Types with values of four octets, of those that a message must have
abbrev pub is_long : ℕ → Bool
is_long kind = list_any (λ long. kind == long) (FRAMING_CAPABILITIES ∷ CALL_SERIAL_NUMBER ∷ FRAMING_TYPE ∷ TX_CONNECT_SPEED ∷ [])

-- A value of the right length for its Attribute Type (section 4.4), of those that a message must have. A Host Name is not empty. A Result Code has
-- 2 octets, or 4 with an Error Code, after which a message may stand.
abbrev pub has_right_length : ℕ → List ℕ → Bool
has_right_length kind value =
    if kind == HOST_NAME then nat_le 1 (length value)
    else (if kind == RESULT_CODE then length value == 2 || nat_le 4 (length value)
    else (if is_long kind then length value == 4
    else length value == 2))

-- there is no value, or it has a wrong length
abbrev pub is_wrong : ℕ → Option (List ℕ) → Bool
is_wrong kind None = true
is_wrong kind (Some value) = not (has_right_length kind value)

-- an AVP of one of these Attribute Types is not there, or has a wrong length
abbrev pub lacks_one_of : Option (List ℕ) → List ℕ → List L2tpAvp → Bool
lacks_one_of secret kinds avps = list_any (λ kind. is_wrong kind (value_of secret kind avps)) kinds

-- a case, and what it refuses
pub record Case (R : Type 0) : Type 0 where
  pub holds : Bool
  pub refusal : R

abbrev pub if_so : {R : Type 0} → Bool → R → Case R
if_so holds refusal = record { holds = holds; refusal = refusal }

-- of the cases the first that holds counts
abbrev pub first_of : {R : Type 0} → List (Case R) → Option R
first_of [] = None
first_of (c ∷ cs) = if c.holds then Some c.refusal else first_of cs
