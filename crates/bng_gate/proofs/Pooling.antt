-- The pools of a configuration are what a desk's pool is opened for.
use Rattle.std.proofs.Common.{◌≡◌, ℕ, ◌+◌, ◌≤◌, List, [], ◌∷◌, map, refl, ap, subst}
use Rattle.std.specs.List.{All}
use Rattle.bng_base.specs.declared.book.Range.{Range}
use Rattle.bng_base.specs.declared.settings.NamedRange.{NamedRange}
use Rattle.bng_config.specs.declared.config.Config.{Config}
use Rattle.bng_config.specs.Pools.{ranges_of}
use Rattle.bng_base.specs.Ranges.{size_of}
use Rattle.bng_schema.specs.Ranges.{address_count as configured}
use Rattle.bng_config.specs.Rules.{KeepsRules}
use Rattle.bng_pool.specs.Ranges.{ArePoolRanges, HasAddress, address_count}

same_count : (rs : List Range) → configured rs ≡ address_count rs
same_count [] = refl
same_count (r ∷ rs) = ap (λ (n : ℕ). size_of r + n) (same_count rs)

pub pool_ranges : (config : Config) → KeepsRules config → ArePoolRanges (map (λ (p : NamedRange). p.range) config.pools)
pool_ranges config rules =
    let are = rules.pools in
    record { few = are.few; ordered = are.ordered; apart = are.apart; addresses = subst (λ (n : ℕ). n ≤ 262144) (same_count (ranges_of config.pools)) are.addresses }

pub pooled : (config : Config) → KeepsRules config → All (λ c. HasAddress (map (λ (p : NamedRange). p.range) config.pools) c.address.0) config.statics
pooled config rules = rules.pooled
