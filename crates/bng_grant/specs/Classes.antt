-- What is kept of the Class attributes of an Access-Accept (RFC 2865 section 5.25).
use Rattle.std.specs.Prelude.{◌≡◌, ◌==◌, ℕ, ◌≤◌, Bool, List, length, filter, take}
use Rattle.std.specs.List.{AllByRecursion}
use Rattle.bng_radius_wire.specs.AttributeTypes as types
use Rattle.bng_radius_wire.specs.Attributes.{Field, AreAttributes}
use Rattle.bng_radius_wire.specs.Grammar.{attributes_text}

abbrev pub is_class : Field → Bool
is_class f = f.kind == types.class

-- the Class attributes, in their order
abbrev pub classes : List Field → List Field
classes fs = filter is_class fs

-- at most 32 attributes, of at most 512 octets in all
pub record HaveRoom (fs : List Field) : Type 0 where
  pub few : length fs ≤ 32
  pub short : length (attributes_text fs) ≤ 512

-- the longest front of these attributes that has room has so many of them
pub record IsMost (count : ℕ) (fs : List Field) : Type 0 where
  pub there : count ≤ length fs
  pub room : HaveRoom (take count fs)
  pub longest : (n : ℕ) → n ≤ length fs → HaveRoom (take n fs) → n ≤ count

-- the octets are the longest front of the Class attributes that has room, each whole: type, length and value
pub record AreKept (fs : List Field) (octets : List ℕ) : Type 0 where
  pub count : ℕ
  pub most : IsMost count (classes fs)
  pub whole : octets ≡ attributes_text (take count (classes fs))

abbrev pub IsClass : Field → Type 0
IsClass f = f.kind ≡ types.class

-- the octets are these Class attributes, whole and in order
pub record AreClasses (classes : List Field) (octets : List ℕ) : Type 0 where
  pub whole : AreAttributes classes octets
  pub classes_all : AllByRecursion IsClass classes
  pub few : length classes ≤ 32
