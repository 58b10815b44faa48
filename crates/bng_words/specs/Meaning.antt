-- The commands: their words, the options that each has, and what they say.
use Rattle.std.specs.Prelude.{◌≡◌, ℕ, ◌≤◌, List, [], ◌∷◌, length, codes, Option, None, Some, string_bytes}
use Rattle.std.specs.Option.{option_map}
use Rattle.std.specs.Str.Parse.{IsNumeral, digits_value}
use Rattle.bng_words.specs.declared.command.Command.{Command}
use Rattle.bng_words.specs.declared.command.Command.TheVariants as command
use Rattle.bng_words.specs.Words.{Text}
use Rattle.bng_words.specs.Line.{LinePiece, Values, ArePieces, no_values, with_pieces}

-- what a command says
pub data Meaning : Type 0 where
  serve : Text → Option Text → ℕ → Meaning
  check : Text → Meaning
  exercise : ℕ → ℕ → Meaning
  audit : Text → Meaning

abbrev pub meaning_of : Command → Meaning
meaning_of (command.Serve configuration trace rounds) = serve (string_bytes configuration) (option_map (λ s. string_bytes s) trace) rounds
meaning_of (command.Check configuration) = check (string_bytes configuration)
meaning_of (command.Exercise subscribers workers) = exercise subscribers workers
meaning_of (command.Audit trace) = audit (string_bytes trace)

-- The text writes the number in 1 to 13 decimal digits, without a sign, and it is from 1 to the most.
pub record IsNumber (most : ℕ) (text : Text) (n : ℕ) : Type 0 where
  pub numeral : IsNumeral 10 text
  pub short : length text ≤ 13
  pub value : n ≡ digits_value 10 text
  pub at_least : 1 ≤ n
  pub at_most : n ≤ most

-- the number that an option gives, or where it is not given the one that stands for it
abbrev pub IsNumberOr : (absent most : ℕ) → List Text → ℕ → Type 0
IsNumberOr absent most [] n = n ≡ absent
IsNumberOr absent most (text ∷ []) n = IsNumber most text n
IsNumberOr absent most (text ∷ second ∷ others) n = ⊥

-- an option that may be given
abbrev pub given : Option Text → List Text
given None = []
given (Some value) = value ∷ []

-- The word of the command and the values at the places of its line say this. A place that the command does not have is
-- empty.
abbrev pub Means : Text → Values → Meaning → Type 0
Means word v (serve configuration trace rounds) =
    (word ≡ codes "serve") × (v.names ≡ configuration ∷ []) × (v.trace ≡ given trace)
    × IsNumberOr 1099511627776 1099511627776 v.rounds rounds × (v.workers ≡ [])
Means word v (check configuration) =
    (word ≡ codes "check") × (v.names ≡ configuration ∷ []) × (v.trace ≡ []) × (v.rounds ≡ []) × (v.workers ≡ [])
Means word v (exercise subscribers workers) =
    (word ≡ codes "exercise") × ((text : Text) × (v.names ≡ text ∷ []) × IsNumber 4000 text subscribers) × (v.trace ≡ [])
    × (v.rounds ≡ []) × IsNumberOr 4 16 v.workers workers
Means word v (audit file) =
    (word ≡ codes "audit") × (v.names ≡ file ∷ []) × (v.trace ≡ []) × (v.rounds ≡ []) × (v.workers ≡ [])

-- The words are a command that says this: its word, and pieces that give its values.
pub record Says (words : List Text) (m : Meaning) : Type 0 where
  pub word : Text
  pub rest : List Text
  pub pieces : List LinePiece
  pub first : words ≡ word ∷ rest
  pub spelled : ArePieces pieces rest
  pub means : Means word (with_pieces no_values pieces) m
