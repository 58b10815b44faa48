use Rattle.std.proofs.Common.{rules, ◌≡◌, ◌∷◌, sym, true≢false}
use Rattle.bng_words.specs.Words.{texts}
use Rattle.bng_words.proofs.FitLaws.{line_said, never_said, said_line}
use Rattle.bng_words.proofs.line.is_command.Goals as goal

pub returns-in-Some-command_named : goal.returns-in-Some-command_named
returns-in-Some-command_named c =
    let first : texts c.args.words.now ≡ c.as_str.result.now ∷ texts c.in-Some.after.now = search rules in (
      λ is. line_said (texts c.args.words.now) c.as_str.result.now (texts c.in-Some.after.now) first c.in-Some-command_named.command c.places_of.result c.in-Some-command_named.ensures c.places_of.ensures (c.is_line.ensures.0 is),
      λ said. c.is_line.ensures.1 (said_line (texts c.args.words.now) c.as_str.result.now (texts c.in-Some.after.now) first c.in-Some-command_named.command c.places_of.result c.in-Some-command_named.ensures c.places_of.ensures said),
    )

pub returns-in-None : goal.returns-in-None
returns-in-None c =
    let first : texts c.args.words.now ≡ c.as_str.result.now ∷ texts c.in-Some.after.now = search rules in (
      λ f. absurd (true≢false (sym f)),
      λ said. absurd (never_said (texts c.args.words.now) c.as_str.result.now (texts c.in-Some.after.now) first c.in-None.ensures said.0 said.1),
    )
