-- What may stand at the places of a command's line.
use Rattle.std.specs.Prelude.{◌≡◌, ◌⊎◌, ℕ, ◌<◌, ⊤, Bool, true, false, List, [], ◌∷◌, length, codes, Option, None, Some, if◌then◌else◌}
use Rattle.bng_words.specs.declared.command_name.CommandName.{CommandName}
use Rattle.bng_words.specs.declared.command_name.CommandName.TheVariants.{Serve, Check, Exercise, Audit}
use Rattle.bng_words.specs.declared.option.OptionName.{OptionName}
use Rattle.bng_words.specs.declared.option.OptionName.TheVariants.{Trace, Rounds, Workers}
use Rattle.bng_words.specs.declared.place.Place.{Place}
use Rattle.bng_words.specs.declared.place.Place.TheVariants.{Closed, Open, Number}
use Rattle.bng_words.specs.declared.place.Places.{Places}
use Rattle.bng_words.specs.Words.{Text}
use Rattle.bng_words.specs.Line.{LinePiece, name, option}
use Rattle.bng_words.specs.Meaning.{IsNumber}

abbrev pub word_of : CommandName → Text
word_of Serve = codes "serve"
word_of Check = codes "check"
word_of Exercise = codes "exercise"
word_of Audit = codes "audit"

abbrev pub places : CommandName → Places
places Serve = record { name = Open; trace = Open; rounds = Number 1099511627776; workers = Closed }
places Check = record { name = Open; trace = Closed; rounds = Closed; workers = Closed }
places Exercise = record { name = Number 4000; trace = Closed; rounds = Closed; workers = Number 16 }
places Audit = record { name = Open; trace = Closed; rounds = Closed; workers = Closed }

-- a place of a line: that of an option, or of the word that is none
abbrev pub Where : Type 0
Where = Option OptionName

abbrev pub place_at : Places → Where → Place
place_at ps None = ps.name
place_at ps (Some Trace) = ps.trace
place_at ps (Some Rounds) = ps.rounds
place_at ps (Some Workers) = ps.workers

-- nothing more may stand there
abbrev pub without : Places → Where → Places
without ps None = record ps { name = Closed }
without ps (Some Trace) = record ps { trace = Closed }
without ps (Some Rounds) = record ps { rounds = Closed }
without ps (Some Workers) = record ps { workers = Closed }

abbrev pub place_of : LinePiece → Where
place_of (name value) = None
place_of (option x value) = Some x

abbrev pub value_of : LinePiece → Text
value_of (name value) = value
value_of (option x value) = value

abbrev pub is_same : Where → Where → Bool
is_same None None = true
is_same (Some Trace) (Some Trace) = true
is_same (Some Rounds) (Some Rounds) = true
is_same (Some Workers) (Some Workers) = true
is_same _ _ = false

-- the values of the pieces that stand there, in order
abbrev pub values_at : Where → List LinePiece → List Text
values_at k [] = []
values_at k (p ∷ ps) = if is_same k (place_of p) then value_of p ∷ values_at k ps else values_at k ps

-- the value may stand at the place
abbrev pub Takes : Place → Text → Type 0
Takes Closed value = ⊥
Takes Open value = ⊤
Takes (Number most) value = (n : ℕ) × IsNumber most value n

-- these values may stand there: none, or one
abbrev pub Holds : Place → List Text → Type 0
Holds place [] = ⊤
Holds place (value ∷ []) = Takes place value
Holds place (value ∷ second ∷ others) = ⊥

-- the pieces give each place what may stand there, and the name where it may
pub record Fits (places : Places) (pieces : List LinePiece) : Type 0 where
  pub each : (k : Where) → Holds (place_at places k) (values_at k pieces)
  pub name : (places.name ≡ Closed) ⊎ (0 < length (values_at None pieces))
