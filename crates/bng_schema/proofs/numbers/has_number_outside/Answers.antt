use Rattle.std.proofs.Common.{rules, sym, ◌∙◌}
use Rattle.std.proofs.lemmas.Int.{to_z-of_z}
use mir.Val.{SFits}
use mir.Syntax.{w64}
use Rattle.toml.specs.View.{view}
use Rattle.bng_schema.proofs.Tests.{number_outside, no_number}
use Rattle.bng_schema.proofs.numbers.has_number_outside.Goals as goal

pub returns-in-Some : goal.returns-in-Some
returns-in-Some c =
    let fits : SFits w64 c.in-Some.number = search rules in
    number_outside (view c.args.document.now) c.args.form (view c.args.value.now) c.in-Some.number c.is_in_range.result (sym c.as_integer.ensures ∙ c.in-Some.is) (simp to_z-of_z at c.is_in_range.ensures)

pub returns-in-None : goal.returns-in-None
returns-in-None c = no_number (view c.args.document.now) c.args.form (view c.args.value.now) (sym c.as_integer.ensures ∙ c.in-None.is)
