use Rattle.std.proofs.Common.{count_by, sym, ap, ◌∙◌, arith}
use Rattle.bng_engine.specs.Views.{row_keys}
use Rattle.bng_steps.specs.TermRows.{has_ended, rows_in}
use Rattle.bng_steps.proofs.Recasting.{recast_over, recast_rows}
use Rattle.bng_steps.proofs.RowSums.{same_rising}
use Rattle.bng_steps.proofs.SameKeys.{same_length}
use Rattle.bng_steps.proofs.terms.Terms.recast.Goals as goal

pub invariant_of-self : goal.invariant_of-self
invariant_of-self c =
    let was = c.self.invariant in
    let rows = c.self.inside.rows.items in
    let now = c.recast.new.rows.items in
    let keys = ap (λ rs. row_keys (rows_in rs)) c.recast.ensures.rows ∙ ap row_keys (recast_rows c.args.serial c.args.place rows) in
    let over = ap (count_by has_ended) c.recast.ensures.rows ∙ recast_over c.args.serial c.args.place rows in (
      same_rising rows now keys was.0,
      was.1,
      was.2 ∙ sym over,
      omega (arith, was.3, same_length rows now keys, c.recast.ensures.capacity),
      was.4,
    )
