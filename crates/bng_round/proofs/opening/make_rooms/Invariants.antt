use Rattle.std.proofs.Common.{◌≡◌, ◌≤◌, ℕ, Some, length, slice_get, slice_index_or}
use Rattle.std.specs.Vec.{vec_capacity}
use Rattle.bng_round.specs.declared.opening.Room.{Room}
use Rattle.bng_round.specs.Opening.{IsRoom}
use Rattle.bng_round.proofs.opening.make_rooms.Given as goal

abbrev pub invariant-loop-items : goal.invariant-loop-items
invariant-loop-items g l = record {
  count : length l.rooms.items ≡ l.items-index;
  each : (k : ℕ) (x : Room _) → slice_get l.rooms.items k ≡ Some x → IsRoom l.fn.shards (slice_index_or l.lengths k 0) x;
  room : length l.lengths ≤ vec_capacity l.rooms;
}
