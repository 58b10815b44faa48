use Rattle.std.proofs.Common.{◌/◌, true, false, ap, arith}
use Rattle.bng_desk.specs.Taking.{far}
use Rattle.bng_desk.proofs.Tallied.{octets_of, told_within}
use Rattle.bng_desk.proofs.sums.carried_on.Goals as goal

pub plus-requires-clause-input : goal.plus-requires-clause-input
plus-requires-clause-input c = omega (arith, told_within far true c.args.line.now c.args.shards.now (c.args.line.now.session.0 / 1024) c.requires, ap (octets_of true) c.carried_now.ensures)

pub plus-requires-clause-output : goal.plus-requires-clause-output
plus-requires-clause-output c = omega (arith, told_within far false c.args.line.now c.args.shards.now (c.args.line.now.session.0 / 1024) c.requires, ap (octets_of false) c.carried_now.ensures)
