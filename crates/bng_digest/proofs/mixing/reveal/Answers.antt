use Rattle.std.proofs.Common.{ℕ, ◌≡◌, ◌*◌, ◌+◌, ◌-◌, take, refl, subst, arith, ◌∙◌}
use Rattle.bng_digest.proofs.Chunks.{reveal_more, reveal_none, reveal_all, left_less}
use Rattle.bng_digest.proofs.mixing.reveal.Goals as goal

pub loop-left-init : goal.loop-left-init
loop-left-init c = record {
  size = refl;
  within = omega (arith, c.div_ceil-left.ensures);
  left = refl;
  done = λ k from. reveal_none c.args.secret.now c.args.first.now c.args.value.now k (omega (arith, c.div_ceil-left.ensures));
}

pub loop-left-preserved : goal.loop-left-preserved
loop-left-preserved c =
    let i = c.loop-left.left - 1 in
    let next : c.loop-left.left ≡ i + 1 = omega arith in
    record {
      size = c.xor_chunk.ensures.size ∙ c.loop-left.invariant.size;
      within = omega arith;
      left = c.xor_chunk.ensures.before ∙ left_less c.args.value.now c.loop-left.value i c.loop-left.left (omega arith) c.loop-left.invariant.left;
      done = reveal_more c.args.secret.now c.args.first.now c.args.value.now c.loop-left.value c.xor_chunk.new.value c.mask-digest.result i
          (λ k from. c.loop-left.invariant.done k (omega arith))
          (subst (λ (n : ℕ). take (16 * n) c.loop-left.value ≡ take (16 * n) c.args.value.now) next c.loop-left.invariant.left)
          c.xor_chunk.ensures.behind
          c.xor_chunk.ensures.xored
          c.mask-digest.ensures;
    }

pub returns : goal.returns
returns c = reveal_all c.args.secret.now c.args.first.now c.args.value.now c.loop-left.value c.told-first c.loop-left.invariant.size (λ k. c.loop-left.invariant.done k (omega arith))
