use Rattle.bng_shard_tests.proofs.Benches.{goes_on, reaped_same}
use Rattle.bng_shard_tests.proofs.shard.Bench.reap.Goals as goal

pub invariant_of-self : goal.invariant_of-self
invariant_of-self c =
    let same = reaped_same c.self.inside.shard c.reap.new.self c.self.inside.pool c.reap.new.pool c.reap.result _ _ c.reap.ensures.one c.reap.ensures.none in
    goes_on c.self.inside.shard c.reap.new.self c.self.inside.pool c.reap.new.pool same.0 same.1 c.reap.ensures.rest.0 c.reap.ensures.rest.1 c.reap.ensures.held c.self.invariant
