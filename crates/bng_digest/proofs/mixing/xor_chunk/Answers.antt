use Rattle.bng_digest.proofs.Chunks.{written_chunk, behind_chunk}
use Rattle.bng_digest.proofs.mixing.xor_chunk.Goals as goal

pub returns-clause-xored : goal.returns-clause-xored
returns-clause-xored c = written_chunk c.args.value.now c.xor_into.new.part c.args.digest.now c.args.i c.min-end.result c.requires c.min-end.ensures c.told-digest c.xor_into.ensures

pub returns-clause-behind : goal.returns-clause-behind
returns-clause-behind c = behind_chunk c.args.value.now c.xor_into.new.part c.args.digest.now c.args.i c.min-end.result c.requires c.min-end.ensures c.told-digest c.xor_into.ensures
