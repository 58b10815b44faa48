use Rattle.std.proofs.Common.{arith}
use Rattle.bng_base.specs.declared.fate.DropCause.TheVariants.{WantOfMemory}
use Rattle.bng_desk.proofs.DropLaws.{plus_at}
use Rattle.bng_desk.proofs.drops.count_refused.Goals as goal

pub returns : goal.returns
returns c = plus_at c.args.drops.now WantOfMemory c.args.items c.number.result c.number.ensures.number (omega (arith, c.number.ensures.few)) (omega (arith, c.number.ensures.few))
