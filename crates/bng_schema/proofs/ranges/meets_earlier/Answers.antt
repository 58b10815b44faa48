use Rattle.std.proofs.Common.{arith, below_more}
use Rattle.bng_schema.proofs.ranges.meets_earlier.Goals as goal

pub loop-earlier-preserved : goal.loop-earlier-preserved
loop-earlier-preserved c = below_more _ _ c.loop-earlier.invariant (λ has. let both = c.meets_at.ensures.1 has in let not = c.if-meets_at.false in cc)

pub returns : goal.returns
returns c = (λ t. cc, λ w. absurd (c.loop-earlier.invariant w.0 (omega arith) (w.2, w.3, w.4)))
