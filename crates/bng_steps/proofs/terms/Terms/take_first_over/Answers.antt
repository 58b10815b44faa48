use Rattle.std.proofs.Common.{List, true, refl, sym, ap, ◌∙◌, arith, filter}
use Rattle.bng_steps.specs.declared.terms.TermRow.{TermRow}
use Rattle.bng_steps.specs.TermRows.{TermsView, has_ended}
use Rattle.bng_steps.proofs.RowOrder.{ended_taken, if_none, length_taken, none_counted, none_ended, rising_taken}
use Rattle.bng_steps.proofs.terms.Terms.take_first_over.Goals as goal

pub returns-then-self-eq0-clause-none : goal.returns-then-self-eq0-clause-none
returns-then-self-eq0-clause-none c =
    let rows = c.self.inside.rows.items in
    let none = none_counted rows (sym c.self.invariant.2 ∙ c.if-self-eq0.true) in
    (ap (λ v. filter has_ended v.rows) (sym c.self.view_is) ∙ none_ended rows none, refl)

pub returns-in_err-row-clause-none : goal.returns-in_err-row-clause-none
returns-in_err-row-clause-none c =
    let inside = c.self.inside in
    let none = c.in_err-row.ensures.none in
    if_none c.from_residual.result _ (
      ap (λ v. filter has_ended v.rows) (sym c.self.view_is) ∙ none_ended inside.rows.items none.0,
      ap (λ (rs : List TermRow). let v : TermsView = record { rows = rs; news = inside.news.items; room = inside.room } in v) none.1 ∙ c.self.view_is,
    )

pub invariant_of-self-2 : goal.invariant_of-self-2
invariant_of-self-2 c =
    let was = c.self.invariant in
    let rows = c.self.inside.rows.items in
    let now = c.take_first.new.rows.items in
    let row = c.in_ok-row.row in
    let one = c.in_ok-row.ensures.one in (
      rising_taken true rows now row one was.0,
      was.1,
      omega (arith, was.2, ended_taken rows now row one),
      omega (arith, was.3, length_taken true rows now row one, c.in_ok-row.ensures.capacity),
      was.4,
    )
