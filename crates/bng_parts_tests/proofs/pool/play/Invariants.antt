use Rattle.std.proofs.Common.{◌≡◌, ◌*◌, true}
use Rattle.bng_parts_tests.proofs.pool.play.Given as goal

abbrev pub invariant-loop-round : goal.invariant-loop-round
invariant-loop-round g l = (l.seat.pool ≡ l.pool) × (l.seat.number ≡ l.number) × (l.seat.full ≡ true) × (l.seat.phase ≡ 2 * l.round)
