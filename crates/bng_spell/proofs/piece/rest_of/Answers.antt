use Rattle.std.proofs.Common.{length, arith}
use Rattle.std.proofs.lemmas.Slice.{between_to_end}
use Rattle.bng_spell.proofs.piece.rest_of.Goals as goal

pub returns : goal.returns
returns c = between_to_end c.args.whole.now c.args.at (length c.args.whole.now) (omega arith)
