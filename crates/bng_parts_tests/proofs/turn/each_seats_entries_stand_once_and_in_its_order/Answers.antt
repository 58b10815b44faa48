use Rattle.std.proofs.Common.{rules, ◌≡◌, length, sym, ◌∙◌, subst}
use Rattle.bng_turn.specs.Ends.{AreAllOutside}
use Rattle.bng_turn.proofs.SeatLists.{refilled, all_at_places}
use Rattle.bng_parts_tests.proofs.turn.each_seats_entries_stand_once_and_in_its_order.Goals as goal

pub close-entries-requires : goal.close-entries-requires
close-entries-requires g c = let many = c.in-Ok.ensures.turn.1 in let seats = c.all_sign.new.seats in
    let long : length c.all_sign.new.seats ≡ length c.in-Ok.seats.items = search rules in
    let is = refilled c.in-Ok.seats.len c.all_sign.new.seats c.in-Ok.seats.items (long ∙ sym c.in-Ok.seats.ok.0) (sym c.in-Ok.seats.ok.0) in
    subst (λ z. AreAllOutside c.in-Ok.turn z) (sym is) (all_at_places c.in-Ok.turn c.all_sign.new.seats (long ∙ (c.in-Ok.ensures.count ∙ sym many)) (λ k d low. c.all_sign.ensures.seats k d (search rules)))
