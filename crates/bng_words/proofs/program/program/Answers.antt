use Rattle.std.proofs.lemmas.Result.{IfOk-weaker}
use Rattle.bng_words.specs.declared.command_name.CommandName.TheVariants.{Serve, Check, Exercise, Audit}
use Rattle.bng_words.proofs.ProgramLaws.{one_command, with_command_required, without_help_command, without_help_flag, without_name}
use Rattle.bng_words.proofs.program.program.Goals as goal

pub returns : goal.returns
returns c =
    let unnamed = without_name c.new.result c.no_binary_name.result _ c.no_binary_name.ensures c.new.ensures.app in
    let no_flag = without_help_flag c.no_binary_name.result c.disable_help_flag.result _ c.disable_help_flag.ensures unnamed in
    let no_help = without_help_command c.disable_help_flag.result c.disable_help_subcommand.result _ c.disable_help_subcommand.ensures no_flag in
    let none = with_command_required c.disable_help_subcommand.result c.subcommand_required.result _ c.subcommand_required.ensures no_help in
    let first = one_command c.subcommand_required.result c.in_ok-subcommand.field-0 c.in_ok-serve.field-0 _ Serve c.in_ok-subcommand.ensures none c.in_ok-serve.ensures in
    let second = one_command c.in_ok-subcommand.field-0 c.in_ok-subcommand-2.field-0 c.in_ok-check.field-0 _ Check c.in_ok-subcommand-2.ensures first c.in_ok-check.ensures in
    let third = one_command c.in_ok-subcommand-2.field-0 c.in_ok-subcommand-3.field-0 c.in_ok-exercise.field-0 _ Exercise c.in_ok-subcommand-3.ensures second c.in_ok-exercise.ensures in
    IfOk-weaker c.subcommand-4.result _ _ (λ r added. one_command c.in_ok-subcommand-3.field-0 r c.in_ok-audit.field-0 _ Audit added third c.in_ok-audit.ensures) c.subcommand-4.ensures
