use Rattle.std.proofs.Common.{take}
use Rattle.bng_spell.specs.Lines.{entry_lines}
use Rattle.bng_spell.specs.Spelling.{Adds}
use Rattle.bng_spell.proofs.lines.put_journals.Given as goal

abbrev pub invariant-loop-shard : goal.invariant-loop-shard
invariant-loop-shard g l = Adds (g.O.Sink.told l.fn.out) (g.O.Sink.told l.out) l.fn.block l.block (entry_lines 0 (take l.shard l.journals))
