use Rattle.std.proofs.Common.{ℕ, ◌++◌, take}
use Rattle.std.specs.Prelude.{codes}
use Rattle.std.specs.Fmt.{decimal}
use Rattle.std.specs.List.{flat_map}
use Rattle.bng_spell.specs.Spelling.{Adds}
use Rattle.bng_spell.proofs.parts.put_more_numbers.Given as goal

abbrev pub invariant-loop-number : goal.invariant-loop-number
invariant-loop-number g l = Adds (g.O.Sink.told l.fn.out) (g.O.Sink.told l.out) l.fn.block l.block (flat_map (λ (m : ℕ). codes "," ++ decimal m) (take l.number-index l.numbers))
