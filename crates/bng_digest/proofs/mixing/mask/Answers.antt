use Rattle.std.proofs.Common.{arith, ◌∙◌}
use Rattle.bng_digest.proofs.Chunks.{mask_at}
use Rattle.bng_digest.proofs.mixing.mask.Goals as goal

pub returns : goal.returns
returns c = c.md5_of.ensures ∙ mask_at c.args.secret.now c.args.first.now c.args.cipher.now c.args.i (omega arith)
