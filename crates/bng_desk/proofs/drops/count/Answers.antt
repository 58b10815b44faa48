use Rattle.std.proofs.Common.{ap, ◌∙◌, sym, arith}
use Rattle.bng_base.specs.declared.fate.Fate.{Fate}
use Rattle.bng_desk.specs.Counting.{with_fate}
use Rattle.bng_desk.proofs.DropLaws.{plus_at}
use Rattle.bng_desk.proofs.drops.count.Goals as goal

pub returns-in-Dropped : goal.returns-in-Dropped
returns-in-Dropped c =
    plus_at c.args.drops.now c.in-Dropped.cause 1 c.number.result c.number.ensures.number (omega (arith, c.number.ensures.few)) (omega (arith, c.number.ensures.few))
    ∙ ap (λ (fate : Fate). with_fate c.args.drops.now fate) (sym c.in-Dropped.is)
