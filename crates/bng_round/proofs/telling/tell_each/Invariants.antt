use Rattle.std.proofs.Common.{◌≡◌, ◌<◌, ℕ, Some, slice_get}
use Rattle.bng_pool.specs.Seats.{SeatView as Hold}
use Rattle.bng_round.specs.Asking.{Goes}
use Rattle.bng_round.specs.Telling.{Knows}
use Rattle.bng_round.proofs.telling.tell_each.Given as goal

abbrev pub invariant-loop-other : goal.invariant-loop-other
invariant-loop-other l = record {
  same : l.others ≡ l.fn.others;
  goes : Goes l.fn.to l.to;
  held : l.to.held ≡ l.fn.to.held;
  knows : (j : ℕ) (q : Hold) → j < l.other-index → slice_get l.fn.others j ≡ Some q → Knows l.to q;
}
