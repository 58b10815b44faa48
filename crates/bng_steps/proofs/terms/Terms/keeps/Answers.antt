use Rattle.std.proofs.Common.{ap, sym, ◌∙◌, arith}
use Rattle.std.specs.List.{list_any}
use Rattle.std.proofs.lemmas.Bool.{le-ltb}
use Rattle.bng_steps.specs.TermRows.{tenures_in}
use Rattle.bng_steps.specs.Tenures.{has_kept}
use Rattle.bng_steps.proofs.RowOrder.{none_counted, none_kept}
use Rattle.bng_steps.proofs.terms.Terms.keeps.Goals as goal

pub returns-else-self-gt0 : goal.returns-else-self-gt0
returns-else-self-gt0 c =
    let rows = c.self.inside.rows.items in
    let none = none_counted rows (omega (arith, c.self.invariant.2, c.if-self-gt0.false)) in
    le-ltb 0 c.self.inside.over c.if-self-gt0.false ∙ sym (none_kept c.args.address rows none) ∙ ap (λ v. list_any (has_kept c.args.address) (tenures_in v.rows)) c.self.view_is
