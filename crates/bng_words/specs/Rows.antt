-- What the matches of `clap` say.
use Rattle.std.specs.Prelude.{◌≡◌, ℕ, ◌^◌, ◌<◌, List, codes, Option, None, Some, Result, MatchResult}
use Rattle.std.specs.Str.Parse.{IsNumeral, digits_value}
use Rattle.clap.specs.Walk.{Row, first_of, one_of}
use Rattle.bng_words.specs.declared.command.Command.{Command}
use Rattle.bng_words.specs.declared.command.WordsError.{WordsError}
use Rattle.bng_words.specs.declared.command.WordsError.TheVariants.{OutOfMemory}
use Rattle.bng_words.specs.declared.command_name.CommandName.{CommandName}
use Rattle.bng_words.specs.declared.command_name.CommandName.TheVariants.{Serve, Check, Exercise, Audit}
use Rattle.bng_words.specs.Words.{Text}
use Rattle.bng_words.specs.Place.{word_of}
use Rattle.bng_words.specs.Meaning.{Meaning, serve, check, exercise, audit, meaning_of}

-- the text is a numeral of this number
pub record Writes (text : Text) (n : ℕ) : Type 0 where
  pub numeral : IsNumeral 10 text
  pub value : n ≡ digits_value 10 text
  pub fits : n < 2 ^ 64

-- the rows have a numeral of this number under this id
abbrev pub HasNumber : Text → List Row → ℕ → Type 0
HasNumber id rows n = (text : Text) × (one_of id rows ≡ Some text) × Writes text n

-- the rows of a command have the values of this meaning, which is one of the command's
abbrev pub HasValues : CommandName → List Row → Meaning → Type 0
HasValues Serve rows (serve configuration trace rounds) =
    (first_of (codes "config") rows ≡ Some configuration) × (first_of (codes "trace") rows ≡ trace) × HasNumber (codes "rounds") rows rounds
HasValues Check rows (check configuration) = first_of (codes "config") rows ≡ Some configuration
HasValues Exercise rows (exercise subscribers workers) =
    HasNumber (codes "subscribers") rows subscribers × HasNumber (codes "workers") rows workers
HasValues Audit rows (audit file) = first_of (codes "file") rows ≡ Some file
HasValues _ rows m = ⊥

-- the subcommand that was met, with its rows, says this
abbrev pub SaysBy : Option (Text × List Row) → Meaning → Type 0
SaysBy None m = ⊥
SaysBy (Some met) m = (k : CommandName) × (met.0 ≡ word_of k) × HasValues k met.1 m

-- the command that says this, or no memory for it
abbrev pub Commands : Meaning → Result Command WordsError → Type 0
Commands m r = MatchResult r (λ c. meaning_of c ≡ m) (λ e. e ≡ OutOfMemory)
