use Rattle.std.proofs.Common.{take}
use Rattle.bng_spell.specs.Lines.{entry_line}
use Rattle.std.specs.List.{flat_map}
use Rattle.bng_spell.specs.Spelling.{Adds}
use Rattle.bng_spell.proofs.lines.put_journal.Given as goal

abbrev pub invariant-loop-entry : goal.invariant-loop-entry
invariant-loop-entry g l = Adds (g.O.Sink.told l.fn.out) (g.O.Sink.told l.out) l.fn.block l.block (flat_map (entry_line l.shard) (take l.entry-index l.journal))
