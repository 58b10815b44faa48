use Rattle.std.proofs.Common.{◌≡◌}
use Rattle.bng_parts_tests.proofs.pool.claim_each.Given as goal

abbrev pub invariant-loop-i : goal.invariant-loop-i
invariant-loop-i l = (l.seat.pool ≡ l.pool) × (l.seat.number ≡ l.number)
