use Rattle.std.proofs.Common.{take}
use Rattle.bng_spell.specs.Lines.{loose_line}
use Rattle.std.specs.List.{flat_map}
use Rattle.bng_spell.specs.Spelling.{Adds}
use Rattle.bng_spell.proofs.lines.put_loose_items.Given as goal

abbrev pub invariant-loop-one : goal.invariant-loop-one
invariant-loop-one g l = Adds (g.O.Sink.told l.fn.out) (g.O.Sink.told l.out) l.fn.block l.block (flat_map loose_line (take l.one-index l.loose))
