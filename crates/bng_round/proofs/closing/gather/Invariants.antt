use Rattle.std.proofs.Common.{◌≡◌, ◌≤◌, ◌<◌, ℕ, Some, length, slice_get}
use Rattle.std.specs.Vec.{vec_capacity}
use Rattle.bng_round.specs.Rounds.{WorkerView}
use Rattle.bng_round.specs.Closing.{Gives}
use Rattle.bng_round.proofs.closing.gather.Given as goal

abbrev pub invariant-loop-k : goal.invariant-loop-k
invariant-loop-k g l = record {
  before : (j : ℕ) (v : WorkerView) → slice_get l.fn.workers.items j ≡ Some v → j < l.k → Gives v (slice_get l.workers.items j) (slice_get l.row.items j);
  after : (j : ℕ) → l.k ≤ j → slice_get l.workers.items j ≡ slice_get l.fn.workers.items j;
  count : length l.workers.items ≡ length l.fn.workers.items;
  long : length l.row.items ≡ l.k;
  room : length l.fn.workers.items ≤ vec_capacity l.row;
}
