use Rattle.std.proofs.Common.{Bool, sym, ap, ◌∙◌}
use Rattle.bng_engine.specs.Lists.{one_if}
use Rattle.bng_desk.specs.Counting.{plus}
use Rattle.bng_desk.specs.Round.{with_failed}
use Rattle.bng_desk.proofs.Sending.{failed_none}
use Rattle.bng_desk.proofs.round.count_failed.Goals as goal

pub returns-else-is_lost : goal.returns-else-is_lost
returns-else-is_lost c = failed_none c.args.drops.now ∙ ap (λ (b : Bool). plus c.args.drops.now (with_failed (one_if b))) (sym c.if-is_lost.false ∙ c.is_lost.ensures)
