use Rattle.std.proofs.Common.{List, Some, length, subst}
use Rattle.bng_steps.specs.declared.terms.TermRow.{TermRow}
use Rattle.bng_steps.specs.TermRows.{IsFirstOf}
use Rattle.bng_steps.proofs.RowOrder.{taken}
use Rattle.bng_steps.proofs.term_rows.take_first.Goals as goal

pub returns-clause-one : goal.returns-clause-one
returns-clause-one c =
    taken c.args.over c.args.rows.now.items c.remove.new.self.items c.in_ok-place.place c.remove.result
    (subst (λ (rs : List TermRow). IsFirstOf c.args.over rs (length rs) (Some c.in_ok-place.place)) c.deref.ensures.value c.in_ok-place.ensures) c.remove.ensures.value c.remove.ensures.items
