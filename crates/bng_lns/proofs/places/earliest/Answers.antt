use Rattle.std.proofs.Common.{arith}
use Rattle.bng_lns.proofs.Earliest.{earliest_most, earliest_none}
use Rattle.bng_lns.proofs.places.earliest.Goals as goal

pub loop-left-init : goal.loop-left-init
loop-left-init c = (omega arith, omega (arith, earliest_most c.args.places.now))

pub returns : goal.returns
returns c = omega (arith, c.loop-left.invariant.0, c.loop-left.invariant.1, earliest_none c.loop-left.left.now (omega (arith, c.in_default.len_below)))
