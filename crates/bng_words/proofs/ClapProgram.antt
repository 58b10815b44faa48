-- What `clap` makes of the words of the program: the first is the command, and the others are its line.
use Rattle.std.proofs.Common.{◌≡◌, ◌∙◌, ◌&&◌, ◌||◌, Bool, true, false, refl, sym, ap, ap₂, subst, List, [], ◌∷◌, ◌++◌, Option, Some, None, is_some}
use Rattle.std.specs.List.{fold, list_all}
use Rattle.clap.specs.Walk.{Held, Names, Row, Walk, nothing_held, rows_after, stop_after, walk, walk_from, walked}
use Rattle.clap.specs.Simple.{App, Shape, argument_words, built, entered, is_simple, names_of, subcommand_of}
use Rattle.clap.specs.Takes.{built_takes, entered_passes, level_passes, takes, walk_passes}
use Rattle.clap.proofs.WalkLemmas.{walk_stopped}
use Rattle.bng_words.specs.declared.command_name.CommandName.{CommandName}
use Rattle.bng_words.specs.declared.command_name.CommandName.TheVariants.{Serve, Check, Exercise, Audit}
use Rattle.bng_words.specs.Words.{Text}
use Rattle.bng_words.specs.Place.{word_of}
use Rattle.bng_words.specs.Program.{program_app}
use Rattle.bng_words.proofs.ClapCommands.{arguments, built_sub}

abbrev top : Shape
top = (built program_app).top

abbrev commands : Names
commands = names_of (built program_app)

-- the walk over the program's words stops at the command
abbrev stopped_at : CommandName → List Text → Walk
stopped_at command rest = record (walk_from nothing_held) { stopped = Some (word_of command, rest) }

stops : (command : CommandName) (rest : List Text) → walk top.rules commands nothing_held (word_of command ∷ rest) ≡ stopped_at command rest
unfolding walked
stops Serve rest = sym (walk_stopped [] commands (walk_from nothing_held) (word_of Serve) [] rest)
stops Check rest = sym (walk_stopped [] commands (walk_from nothing_held) (word_of Check) [] rest)
stops Exercise rest = sym (walk_stopped [] commands (walk_from nothing_held) (word_of Exercise) [] rest)
stops Audit rest = sym (walk_stopped [] commands (walk_from nothing_held) (word_of Audit) [] rest)

enters : (command : CommandName) (rest : List Text) → entered (built program_app) (Some (word_of command, rest)) ≡ Some (word_of command, rows_after (arguments command) [] rest)
enters Serve rest = refl
enters Check rest = refl
enters Exercise rest = refl
enters Audit rest = refl

-- what `clap` finds is the command, with the rows of its line
pub found_command : (command : CommandName) (rest : List Text) → subcommand_of program_app (word_of command ∷ rest) ≡ Some (word_of command, rows_after (arguments command) [] rest)
found_command command rest = ap (λ (w : Walk). entered (built program_app) w.stopped) (stops command rest) ∙ enters command rest

-- the words after the command pass
stopped_passes : (name : Text) (seen rest : List Text) → walk_passes top commands (record (walk_from nothing_held) { stopped = Some (name, seen) }) rest ≡ true
unfolding walk_passes walked
stopped_passes name seen [] = refl
stopped_passes name seen (word ∷ rest) = stopped_passes name (seen ++ word ∷ []) rest

begins : (command : CommandName) (rest : List Text) → walk_passes top commands (walk_from nothing_held) (word_of command ∷ rest) ≡ true
unfolding walk_passes walked
begins Serve rest = stopped_passes (word_of Serve) [] rest
begins Check rest = stopped_passes (word_of Check) [] rest
begins Exercise rest = stopped_passes (word_of Exercise) [] rest
begins Audit rest = stopped_passes (word_of Audit) [] rest

enters_passes : (command : CommandName) (rest : List Text) → entered_passes (built program_app) (Some (word_of command, rest)) ≡ level_passes (built_sub command) [] nothing_held rest false
enters_passes Serve rest = refl
enters_passes Check rest = refl
enters_passes Exercise rest = refl
enters_passes Audit rest = refl

-- where the command's line passes, `clap` takes the words
pub takes_command : (command : CommandName) (rest : List Text) → level_passes (built_sub command) [] nothing_held rest false ≡ true → takes program_app (word_of command ∷ rest) ≡ true
takes_command command rest line =
    let below : entered_passes (built program_app) (Some (word_of command, rest)) ≡ true = enters_passes command rest ∙ line in
    rw (stops command rest, begins command rest, below, enters command rest) refl

pub program_simple : is_simple program_app ≡ true
program_simple = refl
