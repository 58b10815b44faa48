use Rattle.std.proofs.Common.{◌≡◌, length}
use Rattle.std.specs.Prelude.{fold}
use Rattle.bng_base.specs.Checksum.{end_around, words}
use Rattle.bng_ipv4.proofs.checksum.sum_from.Given as goal

abbrev pub invariant-loop-rest : goal.invariant-loop-rest
invariant-loop-rest l = fold end_around l.sum (words l.rest) ≡ fold end_around l.start (words l.bytes)

abbrev pub decreases-loop-rest : goal.decreases-loop-rest
decreases-loop-rest l = length l.rest
