use Rattle.std.proofs.Common.{◌≡◌, ◌≤◌, ◌++◌, List, length}
use Rattle.std.specs.Vec.{vec_len, vec_capacity}
use Rattle.bng_round.specs.Views.{PlacedView}
use Rattle.bng_round.specs.Opening.{AreOpened}
use Rattle.bng_round.proofs.opening.open_turns.Given as goal

abbrev pub decreases-loop-shard : goal.decreases-loop-shard
decreases-loop-shard g l = vec_len l.shards

abbrev pub invariant-loop-shard : goal.invariant-loop-shard
invariant-loop-shard g l = record {
  done : List PlacedView;
  split : l.fn.shards.items ≡ l.shards.items ++ done;
  opened : AreOpened l.fn.seats done l.turns.items l.rows.items;
  room : length l.fn.shards.items ≤ vec_capacity l.shards;
  turns_room : length l.fn.shards.items ≤ vec_capacity l.turns;
  rows_room : length l.fn.shards.items ≤ vec_capacity l.rows;
}
