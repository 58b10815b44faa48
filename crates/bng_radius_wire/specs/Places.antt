-- Where a Message-Authenticator stands among the octets of a packet.
use Rattle.std.specs.Prelude.{◌≡◌, ◌≢◌, ℕ, ◌+◌, List, ◌∷◌, ◌++◌, length}
use Rattle.std.specs.List.{AllByRecursion}
use Rattle.bng_radius_wire.specs.AttributeTypes.{message_authenticator}
use Rattle.bng_radius_wire.specs.Attributes.{Field}
use Rattle.bng_radius_wire.specs.Grammar.{attributes_text}

abbrev pub IsOther : Field → Type 0
IsOther f = f.kind ≢ message_authenticator

-- the first Message-Authenticator of these attributes begins at this place, where they begin at start
pub record FirstStandsAt (fs : List Field) (start at : ℕ) : Type 0 where
  pub before : List Field
  pub here : Field
  pub after : List Field
  pub are : fs ≡ before ++ here ∷ after
  pub others : AllByRecursion IsOther before
  pub kind : here.kind ≡ message_authenticator
  pub place : at ≡ start + length (attributes_text before)
