use Rattle.std.proofs.Common.{◌≡◌, ◌≤◌, ◌<◌, ℕ, Some, length, slice_get, slice_index_or}
use Rattle.bng_round.specs.Opening.{IsMade}
use Rattle.bng_round.specs.Views.{PlacedView}
use Rattle.bng_round.proofs.opening.prepare_all.Given as goal

abbrev pub invariant-loop-s : goal.invariant-loop-s
invariant-loop-s g l = record {
  count : length l.shards.items ≡ length l.fn.shards.items;
  before : (j : ℕ) (v made : PlacedView) → j < l.s → slice_get l.fn.shards.items j ≡ Some v → slice_get l.shards.items j ≡ Some made → IsMade l.fn.lengths l.fn.items (slice_index_or l.fn.allowances j 0) l.fn.now v made;
  after : (j : ℕ) → l.s ≤ j → slice_get l.shards.items j ≡ slice_get l.fn.shards.items j;
}
