-- A key at which no rule is broken.
use Rattle.std.specs.Prelude.{◌≡◌, ℕ, IsTrue}
use Rattle.toml.specs.Data.{Data}
use Rattle.bng_schema.specs.declared.keys.Field.{Field}
use Rattle.bng_schema.specs.declared.keys.Key.{Key}
use Rattle.bng_schema.specs.declared.keys.Key.TheVariants.{Of}
use Rattle.bng_schema.specs.declared.keys.Form.{Form}
use Rattle.bng_schema.specs.declared.keys.Form.TheVariants.{Number}
use Rattle.bng_schema.specs.declared.rule.Rule.{Rule}
use Rattle.bng_schema.specs.Keys.{row}
use Rattle.bng_schema.specs.Rates.{IsAbsent, IsThere}
use Rattle.bng_schema.specs.Rules.{Breaks}

-- the key is to have this form, and no rule is broken there
pub record IsSoundAs (document : Data) (key : Key) (form : Form) : Type 0 where
  pub is : (row key).form ≡ form
  pub kept : (r : Rule) → ¬ Breaks document r key

-- and it must be there
pub record IsThereAs (document : Data) (key : Key) (form : Form) : Type 0 where
  pub needed : IsTrue (row key).needed
  pub sound : IsSoundAs document key form

-- a burst of a direction: where the rate of the direction is there, it is there too
pub record IsBurst (document : Data) (place : ℕ) (cir burst : Field) : Type 0 where
  pub sound : IsSoundAs document (Of burst place) (Number 0 4294967295)
  pub whole : IsThere document cir place → ¬ IsAbsent document burst place

-- the three fields of a direction of a profile
pub record IsDirection (document : Data) (place : ℕ) (rate committed excess : Field) : Type 0 where
  pub cir : IsSoundAs document (Of rate place) (Number 1 1000000000000)
  pub cbs : IsBurst document place rate committed
  pub ebs : IsBurst document place rate excess
