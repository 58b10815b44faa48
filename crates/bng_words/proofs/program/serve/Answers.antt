use Rattle.std.proofs.Common.{◌≡◌, ◌∙◌, ◌∷◌, [], ap, codes, false}
use Rattle.std.proofs.lemmas.Result.{IfOk-weaker}
use Rattle.clap.specs.Words.{Rule, rule_of}
use Rattle.clap.specs.declared.builder.arg.Arg.{Arg}
use Rattle.bng_words.specs.Program.{number_rule, option_rule, word_rule}
use Rattle.bng_words.specs.declared.command_name.CommandName.TheVariants.{Serve}
use Rattle.bng_words.proofs.ProgramLaws.{is_sub, new_command, one_argument}
use Rattle.bng_words.proofs.program.serve.Goals as goal

pub returns : goal.returns
returns c =
    let rounds : rule_of c.default_value-rounds.result ≡ record (number_rule 1099511627776 (option_rule (codes "rounds"))) { defaults = codes "1099511627776" ∷ [] } =
    ap rule_of c.default_value-rounds.ensures
    ∙ ap (λ (r : Rule). record r { defaults = codes "1099511627776" ∷ [] }) (c.number.ensures.rule ∙ ap (number_rule 1099511627776) c.option.ensures.rule) in
    let local : c.default_value-rounds.result.global ≡ false = ap (λ (a : Arg). a.global) c.default_value-rounds.ensures ∙ c.number.ensures.local ∙ c.option.ensures.local in
    let none = new_command c.new.result _ c.new.ensures.app c.new.ensures.local in
    let first = one_argument c.new.result c.in_ok-arg.field-0 c.word.result _ _ c.in_ok-arg.ensures none c.word.ensures.local c.word.ensures.rule in
    let second = one_argument c.in_ok-arg.field-0 c.in_ok-arg-2.field-0 c.option-2.result _ _ c.in_ok-arg-2.ensures first c.option-2.ensures.local c.option-2.ensures.rule in
    IfOk-weaker c.arg-3.result _ _ (λ r added. is_sub Serve r (one_argument c.in_ok-arg-2.field-0 r c.default_value-rounds.result _ _ added second local rounds)) c.arg-3.ensures
