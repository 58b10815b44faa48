use Rattle.std.proofs.Common.{◌≡◌, ◌≤◌, ◌+◌, ◌++◌, ℕ, [], List, Some, length, slice_get}
use Rattle.std.specs.Vec.{vec_capacity, vec_len}
use Rattle.std.specs.List.{AllByRecursion}
use Rattle.bng_turn.specs.Views.{TurnView}
use Rattle.bng_round.specs.Views.{PlacedView}
use Rattle.bng_round.specs.Rounds.{WorkerView}
use Rattle.bng_round.specs.Closing.{EndFrom, IsCut}
use Rattle.bng_round.proofs.closing.end_all.Given as goal

abbrev pub decreases-loop-turn : goal.decreases-loop-turn
decreases-loop-turn g l = vec_len l.turns

abbrev pub invariant-loop-turn : goal.invariant-loop-turn
invariant-loop-turn g l = record {
  done : List (TurnView PlacedView);
  turns : l.fn.turns.items ≡ l.turns.items ++ done;
  ended : EndFrom l.fn.workers.items (length l.turns.items) done l.shards.items;
  cut : (k : ℕ) (v : WorkerView) → slice_get l.fn.workers.items k ≡ Some v → IsCut v (slice_get l.workers.items k) (length l.turns.items);
  count : length l.workers.items ≡ length l.fn.workers.items;
  rows : length l.rows.items ≡ length l.turns.items;
  each_row : AllByRecursion (λ r. (r.items ≡ []) × (length l.fn.workers.items ≤ vec_capacity r)) l.rows.items;
  room : length l.fn.turns.items ≤ vec_capacity l.shards;
  sum : length l.shards.items + length l.turns.items ≡ length l.fn.turns.items;
}
