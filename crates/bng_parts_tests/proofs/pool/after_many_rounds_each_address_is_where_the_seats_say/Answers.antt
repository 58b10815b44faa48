use Rattle.std.proofs.Common.{rules, ◌≡◌, ◌<◌, ℕ, ◌++◌, ◌∷◌, [], length, slice_get, Some, ◌∙◌}
use Rattle.std.proofs.lemmas.Option.{get_or_from_slice_get}
use Rattle.bng_pool.specs.Seats.{new_seat}
use Rattle.bng_pool.proofs.Dealing.{with_worker}
use Rattle.bng_parts_tests.proofs.pool.after_many_rounds_each_address_is_where_the_seats_say.Goals as goal

pub all_play-requires-clause-seats : goal.all_play-requires-clause-seats
all_play-requires-clause-seats g c _ = let count : length c.in_ok-pool.seats.items ≡ 4 = c.in_ok-pool.ensures.counts.0 in
    let each : (k : ℕ) → k < 4 → slice_get c.in_ok-pool.seats.items k ≡ Some (new_seat c.in_ok-pool.pool k) = λ k low. c.in_ok-pool.ensures.shard_seats k low in
    let last : slice_get c.in_ok-pool.workers.items 0 ≡ Some (new_seat c.in_ok-pool.pool 4) = c.in_ok-pool.ensures.worker_seats in
    let more : c.push.new.self.items ≡ c.in_ok-pool.seats.items ++ c.remove-worker.result ∷ [] = search rules in
    with_worker c.in_ok-pool.pool c.in_ok-pool.seats.items c.as_mut_slice.result.now c.remove-worker.result 4 count (c.as_mut_slice.ensures.value ∙ more) each
    (c.remove-worker.ensures.value ∙ get_or_from_slice_get c.in_ok-pool.workers.items 0 (new_seat c.in_ok-pool.pool 4) c.remove-worker.result last)
