use Rattle.std.proofs.Common.{◌≡◌, ◌≤◌, ◌<◌, ℕ, Some, length, slice_get}
use Rattle.bng_round.specs.Views.{PlacedView}
use Rattle.bng_round.specs.Telling.{IsTold}
use Rattle.bng_round.proofs.telling.hear_all.Given as goal

abbrev pub invariant-loop-shard : goal.invariant-loop-shard
invariant-loop-shard g l = record {
  from : l.from ≡ l.fn.from;
  count : length l.shards ≡ length l.fn.shards;
  rest : (s : ℕ) → l.shard-index ≤ s → slice_get l.shards s ≡ slice_get l.fn.shards s;
  told : (s : ℕ) (g g' : PlacedView) → s < l.shard-index → slice_get l.fn.shards s ≡ Some g → slice_get l.shards s ≡ Some g' → IsTold l.fn.from g g';
}
