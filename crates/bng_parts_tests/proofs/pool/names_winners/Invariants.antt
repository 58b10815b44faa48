use Rattle.std.proofs.Common.{◌≡◌}
use Rattle.bng_parts_tests.proofs.pool.names_winners.Given as goal

abbrev pub invariant-loop-winner : goal.invariant-loop-winner
invariant-loop-winner l = l.seat.pool ≡ l.pool
