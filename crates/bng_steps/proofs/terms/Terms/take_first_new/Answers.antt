use Rattle.std.proofs.Common.{List, false, sym, ap, ◌∙◌, arith}
use Rattle.bng_steps.specs.declared.terms.TermRow.{TermRow}
use Rattle.bng_steps.specs.TermRows.{TermsView}
use Rattle.bng_steps.proofs.RowOrder.{length_either, none_if, none_left, rising_either}
use Rattle.bng_steps.proofs.terms.Terms.take_first_new.Goals as goal

pub invariant_of-self : goal.invariant_of-self
invariant_of-self c =
    let was = c.self.invariant in
    let news = c.self.inside.news.items in
    let now = c.take_first.new.rows.items in (
      was.0,
      rising_either false news now c.take_first.result c.take_first.ensures.one c.take_first.ensures.none was.1,
      was.2,
      was.3,
      omega (arith, was.4, length_either false news now c.take_first.result c.take_first.ensures.one c.take_first.ensures.none, c.take_first.ensures.capacity),
    )

pub returns-clause-none : goal.returns-clause-none
returns-clause-none c =
    let inside = c.self.inside in
    none_if c.take_first.result _ (λ none. (
      sym (ap (λ v. v.news) c.self.view_is) ∙ none_left inside.news.items none.0,
      ap (λ (ns : List TermRow). let v : TermsView = record { rows = inside.rows.items; news = ns; room = inside.room } in v) none.1 ∙ c.self.view_is,
    )) c.take_first.ensures.none
