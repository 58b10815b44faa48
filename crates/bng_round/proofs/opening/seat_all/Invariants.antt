use Rattle.std.proofs.Common.{◌≡◌, ◌≤◌, ◌++◌, List, length}
use Rattle.std.specs.Vec.{vec_capacity}
use Rattle.bng_round.specs.declared.opening.Room.{Room}
use Rattle.bng_round.specs.Opening.{seated}
use Rattle.bng_round.proofs.opening.seat_all.Given as goal

abbrev pub invariant-loop-looker : goal.invariant-loop-looker
invariant-loop-looker g l = record {
  done : List (Room _);
  split : l.fn.rooms.items ≡ done ++ l.rooms.items;
  long : length done ≡ length l.yielded;
  number : l.number ≡ length l.yielded;
  workers : l.workers.items ≡ seated l.fn.tallies 0 l.yielded done;
  items : l.fn.lookers.items ≡ l.yielded ++ l.looker-iterator.rest.items;
  room : length l.fn.lookers.items ≤ vec_capacity l.workers;
}
