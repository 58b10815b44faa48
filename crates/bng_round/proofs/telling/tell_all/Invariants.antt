use Rattle.std.proofs.Common.{◌≡◌, ◌<◌, ℕ, Some, slice_get}
use Rattle.bng_round.specs.Views.{PlacedView}
use Rattle.bng_round.specs.Asking.{Goes}
use Rattle.bng_round.specs.Telling.{Knows}
use Rattle.bng_round.proofs.telling.tell_all.Given as goal

abbrev pub invariant-loop-shard : goal.invariant-loop-shard
invariant-loop-shard g l = record {
  same : l.shards ≡ l.fn.shards;
  goes : Goes l.fn.to l.to;
  held : l.to.held ≡ l.fn.to.held;
  knows : (s : ℕ) (g : PlacedView) → s < l.shard-index → slice_get l.fn.shards s ≡ Some g → Knows l.to g.hold;
}
