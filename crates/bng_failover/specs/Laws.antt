-- What all sends of a request say.
use Rattle.std.specs.Prelude.{◌≡◌, ◌⊎◌, ℕ, false, List, [], map, if◌then◌else◌}
use Rattle.bng_radius_wire.specs.Attributes.{Field}
use Rattle.bng_radius_wire.specs.Grammar.{Packet, IsRadius}
use Rattle.bng_radius_wire.specs.Digests.{is_message_authenticator, has_digest}

-- an attribute, but for the value of a Message-Authenticator
abbrev pub but_for_digest : Field → Field
but_for_digest f = if is_message_authenticator f then record f { value = [] } else f

-- two packets differ in the Identifier, in the value of the Message-Authenticator (RFC 2869 section 5.14) and, where that is a
-- digest over the packet (RFC 2866 section 3), in the authenticator alone
pub record SaysTheSame (p q : Packet) : Type 0 where
  pub code : q.code ≡ p.code
  pub attributes : map but_for_digest q.attributes ≡ map but_for_digest p.attributes
  pub authenticator : has_digest p.code ≡ false → q.authenticator ≡ p.authenticator

-- octets begin with a packet that says the same as the packet that others begin with
pub record SaysAgain (before after : List ℕ) : Type 0 where
  pub was : Packet
  pub reads : IsRadius was before
  pub packet : Packet
  pub is : IsRadius packet after
  pub same : SaysTheSame was packet

-- the same octets, or such
abbrev pub IsSameOrSays : (before after : List ℕ) → Type 0
IsSameOrSays before after = (after ≡ before) ⊎ SaysAgain before after
