use Rattle.std.proofs.Common.{arith}
use Rattle.bng_spell.specs.Lines.{refused_line}
use Rattle.bng_spell.proofs.Turns.{item_turn}
use Rattle.bng_spell.proofs.lines.put_refused_items.Goals as goal

pub loop-item-preserved : goal.loop-item-preserved
loop-item-preserved g c = item_turn refused_line c.args.refused.now c.loop-item.item-index c.item-item.result (omega (arith, c.loop-item-test.true)) c.item-item.is c.loop-item.invariant c.put_refused.ensures
