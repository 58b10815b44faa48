use Rattle.std.proofs.Common.{ap, ◌∙◌, arith}
use Rattle.bng_engine.specs.Lists.{one_if}
use Rattle.bng_engine.specs.Views.{row_keys}
use Rattle.bng_steps.specs.TermRows.{rows_in}
use Rattle.bng_steps.proofs.Closing.{over_rows}
use Rattle.bng_steps.proofs.RowSums.{same_rising}
use Rattle.bng_steps.proofs.SameKeys.{same_length}
use Rattle.bng_steps.proofs.terms.Terms.close.Goals as goal

pub invariant_of-self : goal.invariant_of-self
invariant_of-self c =
    let was = c.self.invariant in
    let rows = c.self.inside.rows.items in
    let now = c.close.new.rows.items in
    let keys = ap (λ rs. row_keys (rows_in rs)) c.close.ensures.rows ∙ ap row_keys (over_rows c.in-Some.lease.serial c.in-Some-cause.cause rows) in (
      same_rising rows now keys was.0,
      was.1,
      omega (arith, was.2, c.close.ensures.over, ap one_if c.if-close.true),
      omega (arith, was.3, same_length rows now keys, c.close.ensures.capacity),
      was.4,
    )

pub invariant_of-self-else-close : goal.invariant_of-self-else-close
invariant_of-self-else-close c =
    let was = c.self.invariant in
    let rows = c.self.inside.rows.items in
    let now = c.close.new.rows.items in
    let keys = ap (λ rs. row_keys (rows_in rs)) c.close.ensures.rows ∙ ap row_keys (over_rows c.in-Some.lease.serial c.in-Some-cause.cause rows) in (
      same_rising rows now keys was.0,
      was.1,
      omega (arith, was.2, c.close.ensures.over, ap one_if c.if-close.false),
      omega (arith, was.3, same_length rows now keys, c.close.ensures.capacity),
      was.4,
    )
