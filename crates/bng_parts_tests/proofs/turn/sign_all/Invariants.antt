use Rattle.std.proofs.Common.{◌≡◌, length, false, Some}
use Rattle.bng_parts_tests.proofs.turn.sign_all.Given as goal

abbrev pub invariant-loop-place : goal.invariant-loop-place
invariant-loop-place g l = (l.seat.turn ≡ Some l.fn.turn) × (l.seat.inside ≡ false) × (l.seat.number ≡ l.fn.number) × (length l.seat.own ≡ l.place)
