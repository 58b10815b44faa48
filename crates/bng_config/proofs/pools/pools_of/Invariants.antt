use Rattle.std.proofs.Common.{◌≡◌, length}
use Rattle.toml.specs.View.{view}
use Rattle.bng_schema.specs.Forms.{EachPlace}
use Rattle.bng_config.specs.Configuration.{IsPool}
use Rattle.bng_config.proofs.pools.pools_of.Given as goal

abbrev pub invariant-loop-place : goal.invariant-loop-place
invariant-loop-place l = record {
  done : length l.pools.items ≡ l.place;
  are : EachPlace (IsPool (view l.document)) l.pools.items;
}
