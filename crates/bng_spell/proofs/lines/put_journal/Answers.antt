use Rattle.std.proofs.Common.{arith}
use Rattle.bng_spell.specs.Lines.{entry_line}
use Rattle.bng_spell.proofs.Turns.{item_turn}
use Rattle.bng_spell.proofs.lines.put_journal.Goals as goal

pub loop-entry-preserved : goal.loop-entry-preserved
loop-entry-preserved g c = item_turn (entry_line c.args.shard) c.args.journal.now c.loop-entry.entry-index c.entry-item.result (omega (arith, c.loop-entry-test.true)) c.entry-item.is c.loop-entry.invariant c.put_entry.ensures
