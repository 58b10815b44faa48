use Rattle.std.proofs.Common.{◌≡◌, ◌≤◌, ◌+◌, ◌++◌, List, length}
use Rattle.std.specs.Vec.{vec_len, vec_capacity}
use Rattle.bng_round.specs.Views.{PlacedView}
use Rattle.bng_round.specs.Opening.{AreOpened, openings}
use Rattle.bng_round.proofs.opening.close_back.Given as goal

abbrev pub decreases-loop-turns : goal.decreases-loop-turns
decreases-loop-turns g l = vec_len l.turns

abbrev pub invariant-loop-turns : goal.invariant-loop-turns
invariant-loop-turns g l = record {
  done : List PlacedView;
  split : openings l.fn.turns.items ≡ done ++ openings l.turns.items;
  shards : l.shards.items ≡ l.fn.shards.items ++ done;
  opened : AreOpened l.fn.seats (openings l.turns.items) l.turns.items l.rows.items;
  room : length l.shards.items + length l.turns.items ≤ vec_capacity l.shards;
}
