-- The words of a command line, by their octets.
use Rattle.std.specs.Prelude.{◌≢◌, ℕ, ◌<◌, List, length, map, codes, slice_index, String, string_bytes}
use Rattle.std.specs.declared.alloc.Global.{Global}
use Rattle.bng_words.specs.declared.option.OptionName.{OptionName}
use Rattle.bng_words.specs.declared.option.OptionName.TheVariants.{Trace, Rounds, Workers}

abbrev pub Text : Type 0
Text = List ℕ

abbrev pub texts : List (String Global) → List Text
texts words = map (λ w. string_bytes w) words

-- a word that is no option: it begins with no `-` (45)
abbrev pub IsName : Text → Type 0
IsName word = slice_index word 0 ≢ 45

-- the value of an option: it is not empty either
pub record IsValue (word : Text) : Type 0 where
  pub some : 0 < length word
  pub plain : IsName word

-- an option as it is written
abbrev pub dashed : OptionName → Text
dashed Trace = codes "--trace"
dashed Rounds = codes "--rounds"
dashed Workers = codes "--workers"
