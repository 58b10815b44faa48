-- Values that no two keys may both have.
use Rattle.std.specs.Prelude.{◌≡◌, ◌<◌, ◌⊎◌, ℕ, List, Some}
use Rattle.toml.specs.Data.{Data, string}
use Rattle.bng_schema.specs.declared.keys.Field.{Field}
use Rattle.bng_schema.specs.declared.keys.Field.TheVariants.{CoreLocal, ControlLocal, AccessLocal, RadiusAuthLocal, RadiusAcctLocal, TunnelLocal, CoaLocal, LacIp, PoolName, ProfileName}
use Rattle.bng_schema.specs.declared.keys.Key.{Key}
use Rattle.bng_schema.specs.declared.keys.Key.TheVariants.{Whole, Of}
use Rattle.bng_schema.specs.declared.keys.Table.TheVariants.{Access}
use Rattle.bng_schema.specs.Keys.{path_of, value_at, entries}

-- the text at the key
abbrev pub HasText : Data → Key → List ℕ → Type 0
HasText document key text = value_at (path_of key) document ≡ Some (string text)

-- one of the first entries, this many, has the text at the field
abbrev pub StandsBelow : Data → Field → ℕ → List ℕ → Type 0
StandsBelow document field many text = (i : ℕ) × (i < many) × HasText document (Of field i) text

-- the gateway's own ends that come before each, in the order of the tables
abbrev pub IsEndBeforeAccess : Data → List ℕ → Type 0
IsEndBeforeAccess document text = HasText document (Of CoreLocal 0) text ⊎ HasText document (Of ControlLocal 0) text

abbrev pub IsEndBeforeAuth : Data → List ℕ → Type 0
IsEndBeforeAuth document text = IsEndBeforeAccess document text ⊎ StandsBelow document AccessLocal (entries document Access) text

abbrev pub IsEndBeforeAcct : Data → List ℕ → Type 0
IsEndBeforeAcct document text = IsEndBeforeAuth document text ⊎ HasText document (Of RadiusAuthLocal 0) text

abbrev pub IsEndBeforeTunnel : Data → List ℕ → Type 0
IsEndBeforeTunnel document text = IsEndBeforeAcct document text ⊎ HasText document (Of RadiusAcctLocal 0) text

abbrev pub IsEndBeforeCoa : Data → List ℕ → Type 0
IsEndBeforeCoa document text = IsEndBeforeTunnel document text ⊎ HasText document (Of TunnelLocal 0) text

-- an earlier one of the keys that may not have one value has the text: an earlier end of the gateway's own, the address of an
-- earlier LAC, or the name of an earlier pool or an earlier profile. Each form has one spelling, so equal values are equal texts.
abbrev pub StandsEarlier : Data → Field → ℕ → List ℕ → Type 0
StandsEarlier document ControlLocal place text = HasText document (Of CoreLocal 0) text
StandsEarlier document AccessLocal place text = IsEndBeforeAccess document text ⊎ StandsBelow document AccessLocal place text
StandsEarlier document RadiusAuthLocal place text = IsEndBeforeAuth document text
StandsEarlier document RadiusAcctLocal place text = IsEndBeforeAcct document text
StandsEarlier document TunnelLocal place text = IsEndBeforeTunnel document text
StandsEarlier document LacIp place text = StandsBelow document LacIp place text
StandsEarlier document CoaLocal place text = IsEndBeforeCoa document text
StandsEarlier document PoolName place text = StandsBelow document PoolName place text
StandsEarlier document ProfileName place text = StandsBelow document ProfileName place text
StandsEarlier document field place text = ⊥

-- what stands at the key stands at an earlier one from which it must differ
abbrev pub IsRepeated : Data → Key → Type 0
IsRepeated document (Whole t) = ⊥
IsRepeated document (Of field place) = (text : List ℕ) × HasText document (Of field place) text × StandsEarlier document field place text
