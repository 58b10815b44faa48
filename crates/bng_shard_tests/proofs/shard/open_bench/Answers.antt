use Rattle.std.proofs.Common.{[], sym, subst, arith}
use Rattle.bng_base.specs.declared.item.Entry.{Entry}
use Rattle.bng_engine.specs.Views.{ShardView}
use Rattle.bng_pool.specs.Plain.{PlainView}
use Rattle.bng_steps.specs.Protocol.{ShardState, opened}
use Rattle.bng_shard_tests.proofs.Benches.{Stands, held_opened, pools_of_one}
use Rattle.bng_shard_tests.proofs.shard.open_bench.Goals as goal

pub invariant_of-result : goal.invariant_of-result
invariant_of-result c =
    subst (λ (v : ShardView ShardState Entry). Stands v c.in_ok-pool.pool) (sym c.in_ok-shard.ensures.opened)
    (subst (λ (p : PlainView). Stands (opened 0 c.args.rules [] 0) p) (sym c.in_ok-pool.ensures)
    (pools_of_one c.args.rules.pools c.args.range c.requires.pools, omega arith, held_opened 0 0 [] c.args.rules [] (λ k d lt. absurd (omega (arith, lt))), c.requires.profiles))
