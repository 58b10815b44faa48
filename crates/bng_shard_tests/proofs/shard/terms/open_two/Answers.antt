use Rattle.std.proofs.Common.{ap}
use Rattle.bng_base.specs.declared.item.Entry.{Entry}
use Rattle.bng_engine.specs.Views.{ShardView}
use Rattle.bng_steps.specs.Protocol.{ShardState}
use Rattle.bng_shard_tests.proofs.shard.terms.open_two.Goals as goal

pub bench_of-requires-clause-state : goal.bench_of-requires-clause-state
bench_of-requires-clause-state g c = (c.in_ok-rules.rules, c.in_ok-rules.ensures.pools, c.in_ok-rules.ensures.profiles, ap (λ (v : ShardView ShardState Entry). v.state) c.in_ok-shard.ensures.opened)
