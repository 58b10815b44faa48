-- What stands after the command: one word that is no option, and options with their values, in any order.
use Rattle.std.specs.Prelude.{◌≡◌, ◌≤◌, ◌⊎◌, List, [], ◌∷◌, ◌++◌, length}
use Rattle.bng_words.specs.declared.option.OptionName.{OptionName}
use Rattle.bng_words.specs.declared.option.OptionName.TheVariants.{Trace, Rounds, Workers}
use Rattle.bng_words.specs.Words.{Text, IsName, IsValue, dashed}

-- a word that is no option, or an option with its value
pub data LinePiece : Type 0 where
  name : Text → LinePiece
  option : OptionName → Text → LinePiece

-- The words begin with the piece, and these stand after it. An option's value is the next word, or it stands in the
-- option's word behind `=` (61).
abbrev pub Begins : LinePiece → List Text → List Text → Type 0
Begins (name value) words rest = (words ≡ value ∷ rest) × IsName value
Begins (option x value) words rest =
    ((words ≡ dashed x ∷ value ∷ rest) ⊎ (words ≡ (dashed x ++ 61 ∷ value) ∷ rest)) × IsValue value

-- the words are these pieces, one after the other
abbrev pub ArePieces : List LinePiece → List Text → Type 0
ArePieces [] words = words ≡ []
ArePieces (p ∷ ps) words = (rest : List Text) × Begins p words rest × ArePieces ps rest

-- the values that stand at each place, in the order of the words
pub record Values : Type 0 where
  pub names : List Text
  pub trace : List Text
  pub rounds : List Text
  pub workers : List Text

abbrev pub no_values : Values
no_values = record { names = []; trace = []; rounds = []; workers = [] }

abbrev pub with_piece : Values → LinePiece → Values
with_piece v (name value) = record v { names = v.names ++ value ∷ [] }
with_piece v (option Trace value) = record v { trace = v.trace ++ value ∷ [] }
with_piece v (option Rounds value) = record v { rounds = v.rounds ++ value ∷ [] }
with_piece v (option Workers value) = record v { workers = v.workers ++ value ∷ [] }

abbrev pub with_pieces : Values → List LinePiece → Values
with_pieces v [] = v
with_pieces v (p ∷ ps) = with_pieces (with_piece v p) ps

-- nothing is given twice
pub record IsSingle (v : Values) : Type 0 where
  pub names : length v.names ≤ 1
  pub trace : length v.trace ≤ 1
  pub rounds : length v.rounds ≤ 1
  pub workers : length v.workers ≤ 1
