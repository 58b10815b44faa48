use Rattle.std.proofs.Common.{subst}
use Rattle.std.proofs.lemmas.Option.{slice_get_within}
use Rattle.bng_steps.specs.Wished.{MayWish}
use Rattle.bng_round.proofs.Answering.{has_address}
use Rattle.bng_round.proofs.placed.ask.Goals as goal

pub claim-requires-clause-has : goal.claim-requires-clause-has
claim-requires-clause-has c =
    let pools = c.args._pools.now in
    has_address pools c.args.pool.now.ranges c.in-Address.address c.requires.hold.pools_are (subst (MayWish pools) c.in-Address.is c.requires.may)

pub scan-requires-clause-range : goal.scan-requires-clause-range
scan-requires-clause-range c =
    let (p, at) = subst (MayWish c.args._pools.now) c.in-Pool.is c.requires.may in
    slice_get_within c.args.pool.now.ranges c.in-Pool.place p.range (c.requires.hold.pools_are c.in-Pool.place p at)
