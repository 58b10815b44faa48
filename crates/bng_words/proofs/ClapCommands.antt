-- What `clap` makes of the words of each command.
use Rattle.std.proofs.Common.{◌≡◌, ◌∙◌, ◌<◌, ◌≤◌, ◌^◌, ℕ, Bool, true, false, refl, sym, ap, subst, arith, List, [], ◌∷◌, length, codes, Option, Some, None, true≢false, lit<}
use Rattle.std.specs.Str.{bytes_eq}
use Rattle.clap.specs.Walk.{Rule, arg_by_id, arg_by_index, arg_by_long}
use Rattle.clap.specs.Simple.{App, Shape, built, filled, with_index}
use Rattle.clap.specs.Takes.{value_passes}
use Rattle.bng_words.specs.declared.command_name.CommandName.{CommandName}
use Rattle.bng_words.specs.declared.command_name.CommandName.TheVariants.{Serve, Check, Exercise, Audit}
use Rattle.bng_words.specs.declared.option.OptionName.{OptionName}
use Rattle.bng_words.specs.declared.option.OptionName.TheVariants.{Trace, Rounds, Workers}
use Rattle.bng_words.specs.declared.place.Place.TheVariants.{Closed}
use Rattle.bng_words.specs.Words.{Text}
use Rattle.bng_words.specs.Place.{Where, Takes, is_same, place_at, places, word_of}
use Rattle.bng_words.specs.Program.{number_rule, option_rule, program_app, sub, word_rule}
use Rattle.bng_words.proofs.NumberLaws.{number_in}
use Rattle.bng_words.proofs.ClapSteps.{TakesOne, bare}
use Rattle.bng_words.proofs.ClapLine.{IsLevel}

-- the argument of a place, as it is once the command is built
abbrev pub argument : Where → CommandName → Rule
argument None Serve = with_index 1 (filled (word_rule (codes "config")))
argument None Check = with_index 1 (filled (word_rule (codes "config")))
argument None Exercise = with_index 1 (filled (number_rule 4000 (word_rule (codes "subscribers"))))
argument None Audit = with_index 1 (filled (word_rule (codes "file")))
argument (Some Trace) k = filled (option_rule (codes "trace"))
argument (Some Rounds) k = filled (record (number_rule 1099511627776 (option_rule (codes "rounds"))) { defaults = codes "1099511627776" ∷ [] })
argument (Some Workers) k = filled (record (number_rule 16 (option_rule (codes "workers"))) { defaults = codes "4" ∷ [] })

abbrev pub arguments : CommandName → List Rule
arguments Serve = argument None Serve ∷ argument (Some Trace) Serve ∷ argument (Some Rounds) Serve ∷ []
arguments Check = argument None Check ∷ []
arguments Exercise = argument None Exercise ∷ argument (Some Workers) Exercise ∷ []
arguments Audit = argument None Audit ∷ []

-- the command once it is built
abbrev pub built_sub : CommandName → Shape
built_sub k = record (sub k) {
  rules = arguments k;
  no_binary_name = true;
  disable_help_flag = true;
  disable_help_subcommand = true;
  is_built = true;
}

pub built_subs : (built program_app).subs ≡ built_sub Serve ∷ built_sub Check ∷ built_sub Exercise ∷ built_sub Audit ∷ []
built_subs = refl

takes_one : (k : Where) (command : CommandName) → TakesOne (argument k command)
takes_one None Serve = record { takes = refl; most = refl; least = refl; single = refl; set = refl; trailing = refl; own = refl }
takes_one None Check = record { takes = refl; most = refl; least = refl; single = refl; set = refl; trailing = refl; own = refl }
takes_one None Exercise = record { takes = refl; most = refl; least = refl; single = refl; set = refl; trailing = refl; own = refl }
takes_one None Audit = record { takes = refl; most = refl; least = refl; single = refl; set = refl; trailing = refl; own = refl }
takes_one (Some Trace) command = record { takes = refl; most = refl; least = refl; single = refl; set = refl; trailing = refl; own = refl }
takes_one (Some Rounds) command = record { takes = refl; most = refl; least = refl; single = refl; set = refl; trailing = refl; own = refl }
takes_one (Some Workers) command = record { takes = refl; most = refl; least = refl; single = refl; set = refl; trailing = refl; own = refl }

pub own_ids : (command : CommandName) (k : Where) → bytes_eq (argument k command).id (argument k command).id ≡ true
own_ids command k = (takes_one k command).own

-- the word that is no option is under another id than the options
name_apart : (x : OptionName) (command : CommandName)
    → (bytes_eq (argument (Some x) command).id (argument None command).id ≡ false) × (bytes_eq (argument None command).id (argument (Some x) command).id ≡ false)
name_apart Trace Serve = (refl, refl)
name_apart Trace Check = (refl, refl)
name_apart Trace Exercise = (refl, refl)
name_apart Trace Audit = (refl, refl)
name_apart Rounds Serve = (refl, refl)
name_apart Rounds Check = (refl, refl)
name_apart Rounds Exercise = (refl, refl)
name_apart Rounds Audit = (refl, refl)
name_apart Workers Serve = (refl, refl)
name_apart Workers Check = (refl, refl)
name_apart Workers Exercise = (refl, refl)
name_apart Workers Audit = (refl, refl)

pub ids_apart : (command : CommandName) (k j : Where) → is_same k j ≡ false → bytes_eq (argument j command).id (argument k command).id ≡ false
ids_apart command None None e = absurd (true≢false e)
ids_apart command None (Some x) e = (name_apart x command).0
ids_apart command (Some x) None e = (name_apart x command).1
ids_apart command (Some Trace) (Some Trace) e = absurd (true≢false e)
ids_apart command (Some Trace) (Some Rounds) e = refl
ids_apart command (Some Trace) (Some Workers) e = refl
ids_apart command (Some Rounds) (Some Trace) e = refl
ids_apart command (Some Rounds) (Some Rounds) e = absurd (true≢false e)
ids_apart command (Some Rounds) (Some Workers) e = refl
ids_apart command (Some Workers) (Some Trace) e = refl
ids_apart command (Some Workers) (Some Rounds) e = refl
ids_apart command (Some Workers) (Some Workers) e = absurd (true≢false e)

by_index : (command : CommandName) → arg_by_index (arguments command) 1 ≡ Some (argument None command)
by_index Serve = refl
by_index Check = refl
by_index Exercise = refl
by_index Audit = refl

by_id : (command : CommandName) (k : Where) → ¬ (place_at (places command) k ≡ Closed) → arg_by_id (arguments command) (argument k command).id ≡ Some (argument k command)
by_id Serve None free = refl
by_id Serve (Some Trace) free = refl
by_id Serve (Some Rounds) free = refl
by_id Serve (Some Workers) free = absurd (free refl)
by_id Check None free = refl
by_id Check (Some Trace) free = absurd (free refl)
by_id Check (Some Rounds) free = absurd (free refl)
by_id Check (Some Workers) free = absurd (free refl)
by_id Exercise None free = refl
by_id Exercise (Some Trace) free = absurd (free refl)
by_id Exercise (Some Rounds) free = absurd (free refl)
by_id Exercise (Some Workers) free = refl
by_id Audit None free = refl
by_id Audit (Some Trace) free = absurd (free refl)
by_id Audit (Some Rounds) free = absurd (free refl)
by_id Audit (Some Workers) free = absurd (free refl)

by_long : (command : CommandName) (x : OptionName) → ¬ (place_at (places command) (Some x) ≡ Closed) → arg_by_long (arguments command) (bare x) ≡ Some (argument (Some x) command)
by_long Serve Trace free = refl
by_long Serve Rounds free = refl
by_long Serve Workers free = absurd (free refl)
by_long Check Trace free = absurd (free refl)
by_long Check Rounds free = absurd (free refl)
by_long Check Workers free = absurd (free refl)
by_long Exercise Trace free = absurd (free refl)
by_long Exercise Rounds free = absurd (free refl)
by_long Exercise Workers free = refl
by_long Audit Trace free = absurd (free refl)
by_long Audit Rounds free = absurd (free refl)
by_long Audit Workers free = absurd (free refl)

value_taken : (command : CommandName) (k : Where) (value : Text) → Takes (place_at (places command) k) value → value_passes (argument k command) value ≡ true
value_taken Serve None value takes = refl
value_taken Serve (Some Trace) value takes = refl
value_taken Serve (Some Rounds) value takes = number_in 1099511627776 value takes.0 (lit< tt) takes.1
value_taken Serve (Some Workers) value takes = absurd takes
value_taken Check None value takes = refl
value_taken Check (Some Trace) value takes = absurd takes
value_taken Check (Some Rounds) value takes = absurd takes
value_taken Check (Some Workers) value takes = absurd takes
value_taken Exercise None value takes = number_in 4000 value takes.0 (lit< tt) takes.1
value_taken Exercise (Some Trace) value takes = absurd takes
value_taken Exercise (Some Rounds) value takes = absurd takes
value_taken Exercise (Some Workers) value takes = number_in 16 value takes.0 (lit< tt) takes.1
value_taken Audit None value takes = refl
value_taken Audit (Some Trace) value takes = absurd takes
value_taken Audit (Some Rounds) value takes = absurd takes
value_taken Audit (Some Workers) value takes = absurd takes

pub level : (command : CommandName) → IsLevel (built_sub command) (λ k. argument k command) (places command)
level command = record {
  one = λ k. takes_one k command;
  apart = ids_apart command;
  by_index = by_index command;
  by_id = by_id command;
  by_long = by_long command;
  passes = value_taken command;
}
