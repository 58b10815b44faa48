use Rattle.std.proofs.Common.{◌≡◌, ◌≤◌, ◌+◌, ◌++◌, length, map, sum}
use Rattle.std.specs.Vec.{vec_capacity}
use Rattle.std.specs.List.{flat_map}
use Rattle.bng_round.specs.Rounds.{WorkerView}
use Rattle.bng_round.proofs.closing.part.Given as goal

abbrev pub invariant-loop-worker : goal.invariant-loop-worker
invariant-loop-worker g l = record {
  lookers : l.lookers.items ≡ map (λ (v : WorkerView). v.looker) l.yielded;
  loose : l.loose.items ≡ flat_map (λ (v : WorkerView). v.loose) l.yielded;
  tallies : l.tallies.items ≡ map (λ (v : WorkerView). v.tally) l.yielded;
  items : l.fn.workers.items ≡ l.yielded ++ l.worker-iterator.rest.items;
  lookers_room : length l.lookers.items + length l.worker-iterator.rest.items ≤ vec_capacity l.lookers;
  room : length l.loose.items + sum (map (λ (v : WorkerView). length v.loose) l.worker-iterator.rest.items) ≤ vec_capacity l.loose;
  tallies_room : length l.tallies.items + length l.worker-iterator.rest.items ≤ vec_capacity l.tallies;
}
