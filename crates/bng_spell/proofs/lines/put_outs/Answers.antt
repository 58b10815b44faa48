use Rattle.std.proofs.Common.{arith}
use Rattle.bng_spell.specs.Lines.{out_line}
use Rattle.bng_spell.proofs.Turns.{item_turn}
use Rattle.bng_spell.proofs.lines.put_outs.Goals as goal

pub loop-one-preserved : goal.loop-one-preserved
loop-one-preserved g c = item_turn out_line c.args.outs.now c.loop-one.one-index c.one-item.result (omega (arith, c.loop-one-test.true)) c.one-item.is c.loop-one.invariant c.put_out.ensures
