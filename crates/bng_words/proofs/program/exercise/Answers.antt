use Rattle.std.proofs.Common.{◌≡◌, ◌∙◌, ◌∷◌, [], ap, codes, false}
use Rattle.std.proofs.lemmas.Result.{IfOk-weaker}
use Rattle.clap.specs.Words.{Rule, rule_of}
use Rattle.clap.specs.declared.builder.arg.Arg.{Arg}
use Rattle.bng_words.specs.Program.{number_rule, option_rule, word_rule}
use Rattle.bng_words.specs.declared.command_name.CommandName.TheVariants.{Exercise}
use Rattle.bng_words.proofs.ProgramLaws.{is_sub, new_command, one_argument}
use Rattle.bng_words.proofs.program.exercise.Goals as goal

pub returns : goal.returns
returns c =
    let subscribers : rule_of c.number-subscribers.result ≡ number_rule 4000 (word_rule (codes "subscribers")) = c.number-subscribers.ensures.rule ∙ ap (number_rule 4000) c.word.ensures.rule in
    let workers : rule_of c.default_value-workers.result ≡ record (number_rule 16 (option_rule (codes "workers"))) { defaults = codes "4" ∷ [] } =
    ap rule_of c.default_value-workers.ensures ∙ ap (λ (r : Rule). record r { defaults = codes "4" ∷ [] }) (c.number.ensures.rule ∙ ap (number_rule 16) c.option.ensures.rule) in
    let local : c.default_value-workers.result.global ≡ false = ap (λ (a : Arg). a.global) c.default_value-workers.ensures ∙ c.number.ensures.local ∙ c.option.ensures.local in
    let none = new_command c.new.result _ c.new.ensures.app c.new.ensures.local in
    let first = one_argument c.new.result c.in_ok-arg.field-0 c.number-subscribers.result _ _ c.in_ok-arg.ensures none (c.number-subscribers.ensures.local ∙ c.word.ensures.local) subscribers in
    IfOk-weaker c.arg-2.result _ _ (λ r added. is_sub Exercise r (one_argument c.in_ok-arg.field-0 r c.default_value-workers.result _ _ added first local workers)) c.arg-2.ensures
