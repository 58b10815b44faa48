use Rattle.std.proofs.Common.{arith}
use Rattle.bng_spell.specs.Lines.{loose_line}
use Rattle.bng_spell.proofs.Turns.{item_turn}
use Rattle.bng_spell.proofs.lines.put_loose_items.Goals as goal

pub loop-one-preserved : goal.loop-one-preserved
loop-one-preserved g c = item_turn loose_line c.args.loose.now c.loop-one.one-index c.one-item.result (omega (arith, c.loop-one-test.true)) c.one-item.is c.loop-one.invariant c.put_loose.ensures
