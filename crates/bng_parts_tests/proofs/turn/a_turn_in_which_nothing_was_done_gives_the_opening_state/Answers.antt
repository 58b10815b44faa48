use Rattle.std.proofs.Common.{◌<◌, ℕ, sym, ◌∙◌, subst}
use Rattle.bng_turn.proofs.SeatLists.{all_new}
use Rattle.bng_parts_tests.proofs.turn.a_turn_in_which_nothing_was_done_gives_the_opening_state.Goals as goal

pub close-entries-requires : goal.close-entries-requires
close-entries-requires g c = let many = c.in-Ok.ensures.turn.1 in
    all_new c.in-Ok.turn c.in-Ok.seats.items (c.in-Ok.ensures.count ∙ sym many) (λ k low. c.in-Ok.ensures.each k (subst (λ (z : ℕ). k < z) many low))
