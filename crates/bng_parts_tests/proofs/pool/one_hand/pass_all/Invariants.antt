use Rattle.std.proofs.Common.{◌+◌, [], false}
use Rattle.bng_pool.specs.Seats.{SeatView}
use Rattle.bng_parts_tests.proofs.Stepped.{Stepped}
use Rattle.bng_parts_tests.proofs.pool.one_hand.pass_all.Given as goal

abbrev pub invariant-loop-seat : goal.invariant-loop-seat
invariant-loop-seat l = Stepped (λ (q : SeatView). record q { phase = q.phase + 1; full = false; notes = [] }) l.fn.seats l.seat-index l.seats
