-- What the AVPs of a control message say, by RFC 2661 sections 4.1 to 4.4. Numbers have their most significant octet first.
use Rattle.std.specs.Prelude.{◌≡◌, ℕ, ◌==◌, Bool, ◌&&◌, ◌||◌, not, nat_le, if◌then◌else◌, List, [], ◌∷◌, length, slice_get, slice_range, take, reverse, find, Option, Some, None, is_none}
use Rattle.std.specs.List.{list_any}
use Rattle.byteorder.specs.Endian.{big_from}
use Rattle.bng_digest.specs.Hiding.{revealed_avp}
use Rattle.bng_l2tp_wire.specs.Avps.{L2tpAvp}
use Rattle.bng_l2tp_wire.specs.declared.kind.TheConstants.{MESSAGE_TYPE, ASSIGNED_TUNNEL_ID, RECEIVE_WINDOW_SIZE, ASSIGNED_SESSION_ID, RANDOM_VECTOR}

-- An AVP that is known: one of Vendor ID 0 with an Attribute Type of 0 to 19 or 21 to 39. One with a reserved bit set is to be treated as one
-- that is not known (section 4.1).
abbrev pub is_known : L2tpAvp → Bool
is_known a = a.vendor == 0 && a.reserved == 0 && (nat_le a.kind 19 || nat_le 21 a.kind && nat_le a.kind 39)

-- an AVP of Vendor ID 0 and this Attribute Type, with no reserved bit set
abbrev pub is_of : ℕ → L2tpAvp → Bool
is_of kind a = a.vendor == 0 && a.reserved == 0 && a.kind == kind

-- a Random Vector, which is never hidden (section 4.3)
abbrev pub is_vector : L2tpAvp → Bool
is_vector a = is_of RANDOM_VECTOR a && not a.hidden

-- an AVP of a message, and the last Random Vector before it
pub record PlacedAvp : Type 0 where
  pub avp : L2tpAvp
  pub vector : Option L2tpAvp

-- the AVPs that stand after this Random Vector, if after one
abbrev pub placed_after : Option L2tpAvp → List L2tpAvp → List PlacedAvp
placed_after vector [] = []
placed_after vector (a ∷ rest) = record { avp = a; vector = vector } ∷ placed_after (if is_vector a then Some a else vector) rest

-- the AVPs of a message
abbrev pub placed : List L2tpAvp → List PlacedAvp
placed avps = placed_after None avps

-- An AVP of a message at a place, with the last Random Vector before that place: such are all that `placed` lists.
pub record IsPlaced (avps : List L2tpAvp) (p : PlacedAvp) : Type 0 where
  pub place : ℕ
  pub is : slice_get avps place ≡ Some p.avp
  pub vector : p.vector ≡ find is_vector (reverse (take place avps))

-- The text that a hidden value is made of: the length of the value, the value, and padding (section 4.3). This is the value, where it is
-- there.
abbrev pub original_value : List ℕ → Option (List ℕ)
original_value (high ∷ low ∷ rest) =
    if nat_le (big_from 0 2 (high ∷ low ∷ rest)) (length rest) then Some (slice_range rest 0 (big_from 0 2 (high ∷ low ∷ rest))) else None
original_value (octet ∷ []) = None
original_value [] = None

-- the value that is hidden in an AVP under this secret and this Random Vector
abbrev pub revealed_value : Option (List ℕ) → Option L2tpAvp → L2tpAvp → Option (List ℕ)
revealed_value None vector a = None
revealed_value (Some secret) None a = None
revealed_value (Some secret) (Some v) a = original_value (revealed_avp a.kind secret v.value a.value)

-- the most octets that the value of an AVP has, whose Length has ten bits
abbrev pub value_most : ℕ
value_most = 1017

-- What an AVP says. A longer value is no AVP's, and says nothing.
abbrev pub value_in : Option (List ℕ) → PlacedAvp → Option (List ℕ)
value_in secret p =
    if nat_le (length p.avp.value) value_most then (if p.avp.hidden then revealed_value secret p.vector p.avp else Some p.avp.value) else None

-- a hidden AVP without a Random Vector before it, or where there is no secret
abbrev pub is_unreadable : Option (List ℕ) → PlacedAvp → Bool
is_unreadable secret p = p.avp.hidden && (is_none p.vector || is_none secret)

-- a hidden AVP of a message cannot be read
abbrev pub has_unreadable : Option (List ℕ) → List L2tpAvp → Bool
has_unreadable secret avps = list_any (is_unreadable secret) (placed avps)

abbrev pub value_there : Option (List ℕ) → Option PlacedAvp → Option (List ℕ)
value_there secret None = None
value_there secret (Some p) = value_in secret p

-- what a message says by an AVP of this Attribute Type, of which the first counts
abbrev pub value_of : Option (List ℕ) → ℕ → List L2tpAvp → Option (List ℕ)
value_of secret kind avps = value_there secret (find (λ p. is_of kind p.avp) (placed avps))

-- the number that two octets are
abbrev pub number_in : Option (List ℕ) → Option ℕ
number_in None = None
number_in (Some octets) = if length octets == 2 then Some (big_from 0 2 octets) else None

-- what the Message Type says, which is the first AVP of a message (section 4.4.1) and never hidden
abbrev pub message_type : List L2tpAvp → Option ℕ
message_type [] = None
message_type (a ∷ rest) = if is_of MESSAGE_TYPE a && not a.hidden then number_in (Some a.value) else None

-- the sender's Assigned Tunnel ID (section 4.4.3)
abbrev pub assigned_tunnel : Option (List ℕ) → List L2tpAvp → Option ℕ
assigned_tunnel secret avps = number_in (value_of secret ASSIGNED_TUNNEL_ID avps)

-- the sender's Assigned Session ID (section 4.4.4)
abbrev pub assigned_session : Option (List ℕ) → List L2tpAvp → Option ℕ
assigned_session secret avps = number_in (value_of secret ASSIGNED_SESSION_ID avps)

-- the window of a peer that says none: 4 (section 4.4.3). A window of 0 is none.
abbrev pub default_window : ℕ
default_window = 4

abbrev pub window_in : Option ℕ → ℕ
window_in None = default_window
window_in (Some size) = if size == 0 then default_window else size

-- the sender's Receive Window Size (section 4.4.3)
abbrev pub window_of : Option (List ℕ) → List L2tpAvp → ℕ
window_of secret avps = window_in (number_in (value_of secret RECEIVE_WINDOW_SIZE avps))
