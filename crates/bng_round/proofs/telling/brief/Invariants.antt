use Rattle.std.proofs.Common.{◌≡◌, ◌≤◌, ◌<◌, ℕ, Some, length, slice_get}
use Rattle.bng_pool.specs.Seats.{SeatView as Hold}
use Rattle.bng_round.specs.Asking.{Goes}
use Rattle.bng_round.specs.Telling.{KnowsAll}
use Rattle.bng_round.proofs.telling.brief.Given as goal

abbrev pub invariant-loop-looker : goal.invariant-loop-looker
invariant-loop-looker g l = record {
  same : l.shards ≡ l.fn.shards;
  count : length l.lookers ≡ length l.fn.lookers;
  rest : (j : ℕ) → l.looker-index ≤ j → slice_get l.lookers j ≡ slice_get l.fn.lookers j;
  goes : (j : ℕ) (q q' : Hold) → j < l.looker-index → slice_get l.fn.lookers j ≡ Some q → slice_get l.lookers j ≡ Some q' → Goes q q';
  knows : (j : ℕ) (q : Hold) → j < l.looker-index → slice_get l.lookers j ≡ Some q → KnowsAll q l.fn.shards;
}
