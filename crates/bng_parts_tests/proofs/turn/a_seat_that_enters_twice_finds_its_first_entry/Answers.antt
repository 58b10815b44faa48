use Rattle.bng_turn.proofs.SeatLists.{one_seat}
use Rattle.bng_parts_tests.proofs.turn.a_seat_that_enters_twice_finds_its_first_entry.Goals as goal

pub close-entries-requires : goal.close-entries-requires
close-entries-requires g c = let is = c.sign-second.ensures.seat in one_seat c.in-Ok.turn c.in-Ok.seats.items c.sign-second.new.seat c.in-Ok.ensures.count c.in-Ok.ensures.turn.1 is.0 is.1 is.2
