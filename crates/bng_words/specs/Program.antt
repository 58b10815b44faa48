-- What `clap` is told of the program.
use Rattle.std.specs.Prelude.{◌≡◌, ℕ, List, [], ◌∷◌, Some, true, false, codes}
use Rattle.clap.specs.Walk.{Rule, Text}
use Rattle.clap.specs.Simple.{App, Shape, new_rule, new_shape, shape_of}
use Rattle.clap.specs.declared.builder.command.Command.{Command}
use Rattle.clap.specs.declared.builder.command.Command.TheViews.{out-Command}
use Rattle.clap.specs.declared.builder.value_parser.ValueParser.TheVariants.{Unsigned}
use Rattle.bng_words.specs.declared.command_name.CommandName.{CommandName}
use Rattle.bng_words.specs.declared.command_name.CommandName.TheVariants.{Serve, Check, Exercise, Audit}
use Rattle.bng_words.specs.Place.{word_of}

-- a word that is no option and has to stand
abbrev pub word_rule : Text → Rule
word_rule id = record (new_rule id) { required = true }

abbrev pub option_rule : Text → Rule
option_rule name = record (new_rule name) { long = Some name }

-- a number from 1 to this most
abbrev pub number_rule : ℕ → Rule → Rule
number_rule most r = record r { parser = Some (Unsigned 1 most) }

abbrev pub rules : CommandName → List Rule
rules Serve =
    word_rule (codes "config") ∷ option_rule (codes "trace")
    ∷ record (number_rule 1099511627776 (option_rule (codes "rounds"))) { defaults = codes "1099511627776" ∷ [] } ∷ []
rules Check = word_rule (codes "config") ∷ []
rules Exercise =
    number_rule 4000 (word_rule (codes "subscribers"))
    ∷ record (number_rule 16 (option_rule (codes "workers"))) { defaults = codes "4" ∷ [] } ∷ []
rules Audit = word_rule (codes "file") ∷ []

abbrev pub sub : CommandName → Shape
sub k = record (new_shape (word_of k)) { rules = rules k }

-- the command, with no argument that others share
pub record IsSub (k : CommandName) (c : Command) : Type 0 where
  pub shape : shape_of c ≡ sub k
  pub local : (out-Command c).has_globals ≡ false

-- the program: it has to have a command, and there is no help and no name before the words
abbrev pub program_app : App
program_app = record {
  top = record (new_shape (codes "bng")) {
    is_leaf = false;
    no_binary_name = true;
    disable_help_flag = true;
    disable_help_subcommand = true;
    subcommand_required = true;
  };
  subs = sub Serve ∷ sub Check ∷ sub Exercise ∷ sub Audit ∷ [];
}
