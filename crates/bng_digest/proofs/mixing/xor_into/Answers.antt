use Rattle.std.proofs.Common.{arith}
use Rattle.bng_digest.proofs.Chunks.{xored_by_octets}
use Rattle.bng_digest.proofs.mixing.xor_into.Goals as goal

pub returns : goal.returns
returns c = xored_by_octets _ _ _ c.loop-i.invariant.size (omega arith) (λ k h. c.loop-i.invariant.written k (omega arith))
