use Rattle.std.proofs.Common.{◌<◌, ap, sym, subst, ◌∙◌, arith}
use Rattle.std.specs.Prelude.{count_by}
use Rattle.std.specs.List.{All}
use Rattle.bng_steps.specs.declared.terms.TermRow.{TermRow}
use Rattle.bng_steps.specs.TermRows.{AreRising, has_ended}
use Rattle.bng_steps.proofs.RowOrder.{live_more, rising_more}
use Rattle.bng_steps.proofs.terms.Terms.begin.Goals as goal

pub invariant_of-self : goal.invariant_of-self
invariant_of-self c =
    let row = c.args.row in
    let was = c.self.invariant in
    let rows = c.self.inside.rows.items in
    let news = c.self.inside.news.items in
    let serial = ap (λ t. t.term.serial) c.copy_of.ensures in
    let above = subst (All (λ (r : TermRow). r.term.serial < row.term.serial)) (sym (ap (λ v. v.rows) c.self.view_is)) c.requires.above in
    let above_news = subst (All (λ (r : TermRow). r.term.serial < row.term.serial)) (sym (ap (λ v. v.news) c.self.view_is)) c.requires.above_news in (
      subst AreRising (sym c.push_reserved-2.ensures.items) (rising_more rows row was.0 above),
      subst AreRising (sym c.push_reserved.ensures.items) (rising_more news c.copy_of.result was.1 (λ k d lt. omega (arith, above_news k d lt, serial))),
      was.2 ∙ sym (live_more rows row c.requires.live) ∙ ap (count_by has_ended) (sym c.push_reserved-2.ensures.items),
      omega (arith, was, c.requires.room, ap (λ v. v.room) c.self.view_is, c.push_reserved-2.ensures),
      omega (arith, was, c.requires.room, ap (λ v. v.room) c.self.view_is, c.push_reserved.ensures),
    )
