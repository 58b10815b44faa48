use Rattle.std.proofs.Common.{◌≡◌, ◌≤◌, ◌<◌, ℕ, Some, length, slice_get, Vec, Global}
use Rattle.bng_turn.specs.Views.{SeatView}
use Rattle.bng_round.specs.declared.mark.Mark.{Mark}
use Rattle.bng_round.specs.Views.{PlacedView}
use Rattle.bng_round.specs.declared.opening.Room.{Room}
use Rattle.bng_round.specs.Opening.{HasSeats, IsEmptyRow}
use Rattle.bng_round.proofs.opening.deal_all.Given as goal

abbrev pub invariant-loop-s : goal.invariant-loop-s
invariant-loop-s g l = record {
  count : length l.rooms.items ≡ length l.fn.rooms.items;
  dealt : (k : ℕ) (x : Room _) → slice_get l.fn.rooms.items k ≡ Some x → HasSeats l.fn.rows.items k l.s x (slice_get l.rooms.items k);
  rows_count : length l.rows.items ≡ length l.fn.rows.items;
  before : (j : ℕ) (r : Vec (SeatView PlacedView Mark) Global) → j < l.s → slice_get l.rows.items j ≡ Some r → IsEmptyRow (length l.fn.rooms.items) r;
  after : (j : ℕ) → l.s ≤ j → slice_get l.rows.items j ≡ slice_get l.fn.rows.items j;
}
