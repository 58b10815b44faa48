use Rattle.std.proofs.Common.{◌≡◌, ◌++◌, map, take, drop}
use Rattle.std.specs.Prelude.{bit_xor}
use Rattle.bng_digest.proofs.authentication.keyed_block.Given as goal

abbrev pub invariant-loop-i : goal.invariant-loop-i
invariant-loop-i l = l.block ≡ map (λ octet. bit_xor octet l.pad) (take l.i l.initial.block) ++ drop l.i l.initial.block
