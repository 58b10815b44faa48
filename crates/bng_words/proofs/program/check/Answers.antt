use Rattle.std.proofs.lemmas.Result.{IfOk-weaker}
use Rattle.bng_words.specs.declared.command_name.CommandName.TheVariants.{Check}
use Rattle.bng_words.proofs.ProgramLaws.{is_sub, new_command, one_argument}
use Rattle.bng_words.proofs.program.check.Goals as goal

pub returns : goal.returns
returns c =
    IfOk-weaker c.arg.result _ _ (λ r added. is_sub Check r (one_argument c.new.result r c.word.result _ _ added (new_command c.new.result _ c.new.ensures.app c.new.ensures.local) c.word.ensures.local c.word.ensures.rule)) c.arg.ensures
