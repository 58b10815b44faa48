use Rattle.std.proofs.Common.{◌≡◌, ℕ, length, true, sym, ap, subst, ◌∙◌, arith}
use Rattle.bng_steps.specs.Protocol.{ShardState, terms_of}
use Rattle.bng_shard.specs.Handling.{AreHeld, HasPools}
use Rattle.bng_shard_tests.proofs.Benches.{held_opened, no_pools}
use Rattle.bng_shard_tests.proofs.shard.terms.bench_of.Goals as goal

pub invariant_of-result : goal.invariant_of-result
invariant_of-result g c =
    let pool = c.loop.pool in
    let (r, none, two, is) = c.requires.state in
    let held : c.are_held.result ≡ true = cc in (
      subst (λ (s : ShardState). HasPools s.rules.pools pool.ranges) (sym is) (no_pools r.pools pool.ranges none),
      omega (arith, c.requires.number, c.loop.invariant.two),
      subst (λ (n : ℕ). AreHeld n (terms_of c.args.shard.state) pool.table) (sym c.requires.number)
          (subst (λ (s : ShardState). AreHeld 1 (terms_of s) pool.table) (sym is) (held_opened 1 0 pool.table r c.args.circuits.now (c.are_held.ensures held))),
      ap (λ (s : ShardState). length s.rules.profiles) is ∙ two,
    )
