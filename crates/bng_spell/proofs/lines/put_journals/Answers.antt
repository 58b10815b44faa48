use Rattle.std.proofs.Common.{arith}
use Rattle.bng_spell.proofs.Turns.{journal_turn}
use Rattle.bng_spell.proofs.lines.put_journals.Goals as goal

pub loop-shard-preserved : goal.loop-shard-preserved
loop-shard-preserved g c =
    journal_turn c.args.journals.now c.loop-shard.shard c.index-journals-shard.result c.as_slice.result.now (omega (arith, c.loop-shard-test.true)) c.index-journals-shard.is c.as_slice.ensures c.loop-shard.invariant c.put_journal.ensures
