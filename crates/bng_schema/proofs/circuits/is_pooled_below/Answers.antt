use Rattle.std.proofs.Common.{arith, below_more}
use Rattle.bng_schema.proofs.circuits.is_pooled_below.Goals as goal

pub loop-place-preserved : goal.loop-place-preserved
loop-place-preserved c = below_more _ _ c.loop-place.invariant (λ has. let both = c.has_pool_at.ensures.1 has in let not = c.if-has_pool_at.false in cc)

pub returns : goal.returns
returns c = (λ t. cc, λ w. absurd (c.loop-place.invariant w.0 (omega arith) (w.2, w.3, w.4)))
