-- The attributes of a packet by RFC 2865 section 5: a type, the length of the whole attribute, and its value.
use Rattle.std.specs.Prelude.{ℕ, ◌+◌, ◌<◌, List, ◌∷◌, length, map}
use Rattle.bng_base.specs.Pieces.{ArePieces}
use Rattle.bng_base.specs.declared.codec.ReadError.{ReadError}
use Rattle.bng_base.specs.declared.codec.ReadError.TheVariants.{Outside, TooMany}
use Rattle.bng_radius_wire.specs.declared.views.Attribute.{Attribute}

-- an attribute without where its value lies in memory
pub record Field : Type 0 where
  pub kind : ℕ
  pub value : List ℕ

abbrev pub field : Attribute → Field
field a = record { kind = a.kind; value = a.value.now }

abbrev pub fields : List Attribute → List Field
fields attributes = map field attributes

abbrev pub text : Field → List ℕ
text f = f.kind ∷ (2 + length f.value) ∷ f.value

-- its length has one octet
abbrev pub Fits : Field → Type 0
Fits f = 2 + length f.value < 256

-- the octets are these attributes, one after the other
abbrev pub AreAttributes : List Field → List ℕ → Type 0
AreAttributes fs octets = ArePieces Fits text fs octets

-- what each error says of octets that are to be a list of attributes
abbrev pub WhyNoList : ReadError → List ℕ → Type 0
WhyNoList Outside octets = (fs : List Field) → ¬ (AreAttributes fs octets)
WhyNoList TooMany octets = (fs : List Field) × AreAttributes fs octets × (64 < length fs)
