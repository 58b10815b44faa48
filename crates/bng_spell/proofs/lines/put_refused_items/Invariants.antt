use Rattle.std.proofs.Common.{take}
use Rattle.bng_spell.specs.Lines.{refused_line}
use Rattle.std.specs.List.{flat_map}
use Rattle.bng_spell.specs.Spelling.{Adds}
use Rattle.bng_spell.proofs.lines.put_refused_items.Given as goal

abbrev pub invariant-loop-item : goal.invariant-loop-item
invariant-loop-item g l = Adds (g.O.Sink.told l.fn.out) (g.O.Sink.told l.out) l.fn.block l.block (flat_map refused_line (take l.item-index l.refused))
