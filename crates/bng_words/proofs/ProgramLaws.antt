-- How what `clap` is told grows.
use Rattle.std.proofs.Common.{◌≡◌, ◌∙◌, ◌||◌, true, false, ap, ap₂, [], ◌∷◌, ◌++◌}
use Rattle.clap.specs.Walk.{Rule, rule_of}
use Rattle.clap.specs.Simple.{App, Shape, app_of, app_of_fields, on_top, shape_of, with_rule, with_subcommand}
use Rattle.clap.specs.Built.{AddsArg, AddsSubcommand}
use Rattle.clap.specs.declared.builder.arg.Arg.{Arg}
use Rattle.clap.specs.declared.builder.command.Command.{Command}
use Rattle.clap.specs.declared.builder.command.Command.TheViews.{out-Command}
use Rattle.bng_words.specs.declared.command_name.CommandName.{CommandName}
use Rattle.bng_words.specs.Program.{IsSub, sub}

-- a command of this shape, with no argument that others share
pub record IsShaped (s : Shape) (c : Command) : Type 0 where
  pub shape : shape_of c ≡ s
  pub local : (out-Command c).has_globals ≡ false

abbrev pub with_one : Shape → Rule → Shape
with_one s r = record s { rules = s.rules ++ r ∷ [] }

-- a new command
pub new_command : (c : Command) (s : App) → app_of c ≡ s → (out-Command c).has_globals ≡ false → IsShaped s.top c
new_command c s is local = record { shape = ap (λ (p : App). p.top) is; local = local }

-- the settings of a command
pub without_name : (old new : Command) (p : App) → out-Command new ≡ record (out-Command old) { no_binary_name = true } → app_of old ≡ p
    → app_of new ≡ on_top (λ s. record s { no_binary_name = true }) p
without_name old new p is was = ap app_of_fields is ∙ ap (on_top (λ (s : Shape). record s { no_binary_name = true })) was

pub without_help_flag : (old new : Command) (p : App) → out-Command new ≡ record (out-Command old) { disable_help_flag = true } → app_of old ≡ p
    → app_of new ≡ on_top (λ s. record s { disable_help_flag = true }) p
without_help_flag old new p is was = ap app_of_fields is ∙ ap (on_top (λ (s : Shape). record s { disable_help_flag = true })) was

pub without_help_command : (old new : Command) (p : App) → out-Command new ≡ record (out-Command old) { disable_help_subcommand = true } → app_of old ≡ p
    → app_of new ≡ on_top (λ s. record s { disable_help_subcommand = true }) p
without_help_command old new p is was = ap app_of_fields is ∙ ap (on_top (λ (s : Shape). record s { disable_help_subcommand = true })) was

pub with_command_required : (old new : Command) (p : App) → out-Command new ≡ record (out-Command old) { subcommand_required = true } → app_of old ≡ p
    → app_of new ≡ on_top (λ s. record s { subcommand_required = true }) p
with_command_required old new p is was = ap app_of_fields is ∙ ap (on_top (λ (s : Shape). record s { subcommand_required = true })) was

-- one more argument
pub one_argument : (old new : Command) (a : Arg) (s : Shape) (r : Rule) → AddsArg old a new → IsShaped s old → a.global ≡ false → rule_of a ≡ r → IsShaped (with_one s r) new
one_argument old new a s r added was local rule = record {
  shape = ap (λ (p : App). p.top) (added.shape local) ∙ ap₂ with_one was.shape rule;
  local = added.globals ∙ ap₂ (λ p q. p || q) was.local local;
}

pub is_sub : (k : CommandName) (c : Command) → IsShaped (sub k) c → IsSub k c
is_sub k c shaped = record { shape = shaped.shape; local = shaped.local }

-- one more command
pub one_command : (old new below : Command) (p : App) (k : CommandName) → AddsSubcommand old below new → app_of old ≡ p → IsSub k below → app_of new ≡ with_subcommand p (sub k)
one_command old new below p k added was is = added.shape is.local ∙ ap₂ with_subcommand was is.shape
