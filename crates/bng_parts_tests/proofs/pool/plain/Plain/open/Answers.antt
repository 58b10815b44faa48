use Rattle.std.proofs.Common.{◌≡◌, ◌+◌, length, refl, sym, ap, ◌∙◌, subst, arith}
use Rattle.std.proofs.lemmas.Option.{get_or_from_slice_get, slice_get_within, same_Some}
use Rattle.bng_pool.specs.Seats.{SeatView, IsInRound, new_seat}
use Rattle.bng_parts_tests.proofs.pool.plain.Plain.open.Goals as goal

pub invariant_of-result : goal.invariant_of-result
invariant_of-result c = let did = c.in_ok-pool.ensures in let shards = did.pool.1 in let all = did.counts.0 in let long : length c.in_ok-pool.seats.items ≡ c.in_ok-pool.pool.shards = did.counts.0 ∙ sym did.pool.1 in
    let looker : c.remove-looker.result ≡ new_seat c.in_ok-pool.pool (c.args.shards + 0) = c.remove-looker.ensures.value ∙ get_or_from_slice_get c.in_ok-pool.workers.items 0 (new_seat c.in_ok-pool.pool (c.args.shards + 0)) c.remove-looker.result (did.worker_seats 0 (omega arith)) in
    let opens = c.seats_in_one_hand_are_a_table.ensures.opens c.in_ok-pool.pool c.in_ok-pool.seats.items long (λ k low. did.shard_seats k (omega arith)) in
    let phase = ap (λ (z : SeatView). z.phase) looker in let number = ap (λ (z : SeatView). z.number) looker in (
      opens.0,
      (
        (λ k q e. let within = slice_get_within c.in_ok-pool.seats.items k q e in let is = same_Some (new_seat c.in_ok-pool.pool k) q (sym (did.shard_seats k (omega arith)) ∙ e) in
            (subst IsInRound is (refl, refl), ap (λ (z : SeatView). z.phase) (sym is) ∙ sym phase)),
        subst IsInRound (sym looker) (refl, refl),
      ),
      (ap (λ (z : SeatView). z.pool) looker, omega arith),
    )

pub returns : goal.returns
returns c = let did = c.in_ok-pool.ensures in let shards = did.pool.1 in let all = did.counts.0 in let long : length c.in_ok-pool.seats.items ≡ c.in_ok-pool.pool.shards = did.counts.0 ∙ sym did.pool.1 in
    let looker : c.remove-looker.result ≡ new_seat c.in_ok-pool.pool (c.args.shards + 0) = c.remove-looker.ensures.value ∙ get_or_from_slice_get c.in_ok-pool.workers.items 0 (new_seat c.in_ok-pool.pool (c.args.shards + 0)) c.remove-looker.result (did.worker_seats 0 (omega arith)) in
    let opens = c.seats_in_one_hand_are_a_table.ensures.opens c.in_ok-pool.pool c.in_ok-pool.seats.items long (λ k low. did.shard_seats k (omega arith)) in
    (λ i. (did.pool.0 i, opens.1 i, did.pool.1 i, ap (λ (z : SeatView). z.phase) looker i))
