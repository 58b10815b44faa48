use Rattle.std.proofs.Common.{arith, ◌∙◌}
use Rattle.bng_digest.proofs.Chunks.{hide_more, hide_all, left_more}
use Rattle.bng_digest.proofs.mixing.hide.Goals as goal

pub loop-i-preserved : goal.loop-i-preserved
loop-i-preserved c = record {
  size = c.xor_chunk.ensures.size ∙ c.loop-i.invariant.size;
  done = hide_more c.args.secret.now c.args.first.now c.args.value.now c.loop-i.value c.xor_chunk.new.value c.mask-digest.result c.loop-i.i c.loop-i.invariant.done c.loop-i.invariant.left c.xor_chunk.ensures.before c.xor_chunk.ensures.xored c.mask-digest.ensures;
  left = c.xor_chunk.ensures.behind ∙ left_more c.args.value.now c.loop-i.value c.loop-i.i c.loop-i.invariant.left;
}

pub returns : goal.returns
returns c = hide_all c.args.secret.now c.args.first.now c.args.value.now c.loop-i.value c.loop-i.i (omega (arith, c.div_ceil-i-end.ensures)) c.loop-i.invariant.size c.loop-i.invariant.done
