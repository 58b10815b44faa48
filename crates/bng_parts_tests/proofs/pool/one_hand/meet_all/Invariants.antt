use Rattle.std.proofs.Common.{true}
use Rattle.bng_pool.specs.Seats.{SeatView}
use Rattle.bng_parts_tests.proofs.Stepped.{Stepped}
use Rattle.bng_parts_tests.proofs.pool.one_hand.meet_all.Given as goal

abbrev pub invariant-loop-seat : goal.invariant-loop-seat
invariant-loop-seat g l = Stepped (λ (q : SeatView). record q { full = true }) l.fn.seats l.seat-index l.seats
