use Rattle.std.proofs.Common.{◌∙◌, ap, subst, sym, Option, List}
use Rattle.clap.specs.Words.{App, Row, is_simple, subcommand_of, takes}
use Rattle.bng_words.specs.Words.{Text, texts}
use Rattle.bng_words.specs.Rows.{SaysBy}
use Rattle.bng_words.proofs.ClapProgram.{program_simple}
use Rattle.bng_words.proofs.ClapLaws.{clap_says}
use Rattle.bng_words.proofs.grammar.parse.Goals as goal

pub returns-in-Ok-try_get_matches_from : goal.returns-in-Ok-try_get_matches_from
returns-in-Ok-try_get_matches_from c =
    λ m says.
    let told = c.in-Ok.ensures in
    let found = (c.in-Ok-try_get_matches_from.ensures.matches (ap is_simple told ∙ program_simple)).1 in
    let P : Option (Text × List Row) → Type 0 = λ o. SaysBy o m in
    c.command_of.ensures m (subst P (sym (found ∙ ap (λ (a : App). subcommand_of a (texts c.args.words.now)) told)) (clap_says (texts c.args.words.now) m says).1)

pub returns-in-Err : goal.returns-in-Err
returns-in-Err c =
    λ m says.
    let taken = ap (λ (a : App). takes a (texts c.args.words.now)) c.in-Ok.ensures ∙ (clap_says (texts c.args.words.now) m says).0 in
    c.cause_of.ensures (c.kind.ensures ∙ c.in-Err.ensures.passes taken)
