-- What a word of the line is.
use Rattle.std.specs.Prelude.{◌≡◌, ◌≢◌, ◌∷◌, ◌++◌}
use Rattle.bng_words.specs.declared.option.OptionName.{OptionName}
use Rattle.bng_words.specs.declared.word.Word.{Word}
use Rattle.bng_words.specs.declared.word.Word.TheVariants.{Name, Flag, Joined, Other}
use Rattle.bng_words.specs.Words.{Text, IsName, IsValue, dashed}

abbrev pub IsWord : Word → Text → Type 0
IsWord (Name name) word = (word ≡ name.now) × IsName word
IsWord (Flag x) word = word ≡ dashed x
IsWord (Joined x value) word = (word ≡ dashed x ++ 61 ∷ value.now) × IsValue value.now
IsWord Other word =
    (¬ (IsName word)) × ((x : OptionName) → word ≢ dashed x)
    × ((x : OptionName) (value : Text) → word ≡ dashed x ++ 61 ∷ value → ¬ (IsValue value))
