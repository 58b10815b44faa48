use Rattle.std.proofs.Common.{arith}
use Rattle.bng_spell.proofs.Repeats.{digits_none, digits_turn}
use Rattle.bng_spell.proofs.parts.put_digits.Goals as goal

pub loop-at-init : goal.loop-at-init
loop-at-init g c = (omega arith, digits_none _ _)

pub loop-at-preserved : goal.loop-at-preserved
loop-at-preserved g c = (omega arith, digits_turn c.args.octets.now c.loop-at.at c.min-next.result (omega arith) c.loop-at.invariant.1 c.put_few_digits.ensures)
