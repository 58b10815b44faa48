use Rattle.std.proofs.Common.{◌≤◌, ◌-◌, length, take}
use Rattle.hex.specs.Hex.{encode_lower}
use Rattle.bng_spell.specs.Spelling.{Adds}
use Rattle.bng_spell.proofs.parts.put_digits.Given as goal

abbrev pub invariant-loop-at : goal.invariant-loop-at
invariant-loop-at g l = (l.at ≤ length l.octets) × Adds (g.O.Sink.told l.fn.out) (g.O.Sink.told l.out) l.fn.block l.block (encode_lower (take l.at l.octets))

abbrev pub decreases-loop-at : goal.decreases-loop-at
decreases-loop-at g l = length l.octets - l.at
