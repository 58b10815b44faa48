use Rattle.std.proofs.Common.{◌-◌, length}
use Rattle.std.specs.List.{AllByRecursion, flat_map}
use Rattle.bng_spell.specs.Standing.{Stands}
use Rattle.bng_spell.proofs.many.many.Given as goal

abbrev pub invariant-loop-line : goal.invariant-loop-line
invariant-loop-line g l = AllByRecursion (g.L.Line.fits l.within) l.lines.items × Stands l.whole l.at (flat_map (g.L.Line.text l.within) l.lines.items) l.next

abbrev pub decreases-loop-line : goal.decreases-loop-line
decreases-loop-line g l = length l.whole - l.next
