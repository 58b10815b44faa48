use Rattle.std.proofs.Common.{filter, sym, ap, ◌∙◌, arith}
use Rattle.std.proofs.lemmas.Bool.{ltb-false, ltb-true}
use Rattle.bng_steps.specs.TermRows.{has_ended}
use Rattle.bng_steps.proofs.Idle.{none_over_counted}
use Rattle.bng_steps.proofs.RowOrder.{none_counted, none_ended}
use Rattle.bng_steps.proofs.terms.Terms.has_over.Goals as goal

pub returns-clause-none : goal.returns-clause-none
returns-clause-none c is =
    let rows = c.self.inside.rows.items in
    let few = ltb-false 0 c.self.inside.over is in
    ap (λ v. filter has_ended v.rows) (sym c.self.view_is) ∙ none_ended rows (none_counted rows (omega (arith, c.self.invariant.2, few)))

pub returns-clause-some : goal.returns-clause-some
returns-clause-some c is none =
    let rows = c.self.inside.rows.items in
    let some = ltb-true 0 c.self.inside.over is in
    let counted = none_over_counted rows (ap (λ v. filter has_ended v.rows) c.self.view_is ∙ none) in
    omega (arith, some, counted, c.self.invariant.2)
