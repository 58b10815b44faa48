use Rattle.std.proofs.Common.{◌≡◌, ◌≤◌, ◌<◌, ℕ, Some, length, slice_get}
use Rattle.std.specs.Vec.{vec_len, vec_capacity}
use Rattle.bng_round.specs.declared.opening.Room.{Room}
use Rattle.bng_round.specs.Opening.{TakesSeat}
use Rattle.bng_round.proofs.opening.deal_row.Given as goal

abbrev pub decreases-loop-seat : goal.decreases-loop-seat
decreases-loop-seat g l = vec_len l.row

abbrev pub invariant-loop-seat : goal.invariant-loop-seat
invariant-loop-seat g l = record {
  count : length l.rooms.items ≡ length l.fn.rooms.items;
  low : length l.row.items ≤ length l.fn.rooms.items;
  kept : (j : ℕ) → j < length l.row.items → slice_get l.row.items j ≡ slice_get l.fn.row.items j;
  before : (j : ℕ) → j < length l.row.items → slice_get l.rooms.items j ≡ slice_get l.fn.rooms.items j;
  after : (j : ℕ) (x : Room _) → slice_get l.fn.rooms.items j ≡ Some x → length l.row.items ≤ j → TakesSeat x (slice_get l.rooms.items j) (slice_get l.fn.row.items j);
  room : vec_capacity l.row ≡ vec_capacity l.fn.row;
}
