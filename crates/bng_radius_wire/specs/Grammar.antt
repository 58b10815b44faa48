-- A packet by RFC 2865 section 3.
use Rattle.std.specs.Prelude.{◌≡◌, ℕ, ◌+◌, ◌<◌, ◌≤◌, List, ◌∷◌, ◌++◌, length, slice_index, slice_range}
use Rattle.std.specs.List.{flat_map, AllByRecursion}
use Rattle.byteorder.specs.Endian.{big_from, big_bytes}
use Rattle.bng_base.specs.declared.codec.ReadError.{ReadError}
use Rattle.bng_base.specs.declared.codec.ReadError.TheVariants.{Outside, TooMany}
use Rattle.bng_radius_wire.specs.declared.views.Radius.{Radius}
use Rattle.bng_radius_wire.specs.Attributes.{Field, Fits, fields, text, AreAttributes}

abbrev pub AreOctets : List ℕ → Type 0
AreOctets octets = (i : ℕ) → slice_index octets i < 256

-- a packet without where its attributes' values lie in memory
pub record Packet : Type 0 where
  pub code : ℕ
  pub id : ℕ
  pub authenticator : List ℕ
  pub attributes : List Field

abbrev pub whole : Radius → Packet
whole v = record { code = v.code; id = v.id; authenticator = v.authenticator; attributes = fields v.attributes.items }

-- the Length of octets 2 and 3
abbrev pub length_in : List ℕ → ℕ
length_in octets = big_from 2 2 octets

-- The octets begin with the packet. The octets past its Length are padding.
pub record IsRadius (p : Packet) (octets : List ℕ) : Type 0 where
  pub code : p.code ≡ slice_index octets 0
  pub id : p.id ≡ slice_index octets 1
  pub at_least : 20 ≤ length_in octets
  pub at_most : length_in octets ≤ 4096
  pub is_there : length_in octets ≤ length octets
  pub authenticator : p.authenticator ≡ slice_range octets 4 20
  pub attributes : AreAttributes p.attributes (slice_range octets 20 (length_in octets))

-- the attributes of a packet as octets
abbrev pub attributes_text : List Field → List ℕ
attributes_text fs = flat_map text fs

-- the one text of a packet: Code, Identifier, Length, Authenticator and Attributes
unfoldable pub spelling : Packet → List ℕ
spelling p = p.code ∷ p.id ∷ (big_bytes 2 (20 + length (attributes_text p.attributes)) ++ (p.authenticator ++ attributes_text p.attributes))

-- what each error says of octets that are to be a packet
abbrev pub WhyNot : ReadError → List ℕ → Type 0
WhyNot Outside octets = (p : Packet) → ¬ (IsRadius p octets)
WhyNot TooMany octets = (p : Packet) × IsRadius p octets × (64 < length p.attributes)

-- the octets are the packet, with no padding
pub record IsSpelled (p : Packet) (octets : List ℕ) : Type 0 where
  pub text : octets ≡ spelling p
  pub size : length p.authenticator ≡ 16
  pub fit : AllByRecursion Fits p.attributes
