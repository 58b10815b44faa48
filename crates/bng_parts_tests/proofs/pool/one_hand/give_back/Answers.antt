use Rattle.std.proofs.Common.{◌≡◌, ◌+◌, ◌%◌, true, [], get_or, set, slice_get, Some, sym, ap, ◌∙◌, subst, arith}
use Rattle.std.proofs.lemmas.Option.{slice_get-get_or}
use Rattle.bng_pool.specs.Seats.{SeatView}
use Rattle.bng_pool.specs.OneHand.{AreInRound}
use Rattle.bng_parts_tests.proofs.InHand.{GoesOn, full_in_round, settling_full, settling_holds, given_full, given_hand, given_round, odd_next, even_next}
use Rattle.bng_parts_tests.proofs.pool.one_hand.give_back.Goals as goal

pub onward-requires-clause-seats : goal.onward-requires-clause-seats
onward-requires-clause-seats g c = full_in_round c.args.pool.now c.args.looker.now.phase c.args.seats.now c.requires.hand c.requires.round.0

pub bounds-seats-shard : goal.bounds-seats-shard
bounds-seats-shard g c = let all = c.requires.hand.all in let long = c.onward.auto.seats in let low = c.requires.shard in omega arith

pub give_back-requires-clause-pool : goal.give_back-requires-clause-pool
give_back-requires-clause-pool g c = let on : GoesOn (c.args.looker.now.phase + 1) c.args.seats.now c.onward.new.seats = (c.onward.auto.seats, c.onward.ensures.seats) in let before : SeatView = get_or c.onward.new.seats c.args.shard c.index-seats-shard.result in
    let all = c.requires.hand.all in let long = c.onward.auto.seats in let low = c.requires.shard in let at = slice_get-get_or c.onward.new.seats c.args.shard c.index-seats-shard.result (omega arith) in
    (settling_full c.seats_in_one_hand_are_a_table.ensures.all_keep c.seats_in_one_hand_are_a_table.ensures.entries c.args.pool.now c.args.seats.now c.onward.new.seats c.requires.hand c.args.looker.now.phase c.requires.round.0 on c.args.shard c.args.a.0 c.requires.held before at c.args.shard before at).0

pub give_back-requires-clause-holds : goal.give_back-requires-clause-holds
give_back-requires-clause-holds g c = let on : GoesOn (c.args.looker.now.phase + 1) c.args.seats.now c.onward.new.seats = (c.onward.auto.seats, c.onward.ensures.seats) in let before : SeatView = get_or c.onward.new.seats c.args.shard c.index-seats-shard.result in
    let all = c.requires.hand.all in let long = c.onward.auto.seats in let low = c.requires.shard in let at = slice_get-get_or c.onward.new.seats c.args.shard c.index-seats-shard.result (omega arith) in
    settling_holds c.seats_in_one_hand_are_a_table.ensures.all_keep c.seats_in_one_hand_are_a_table.ensures.entries c.args.pool.now c.args.seats.now c.onward.new.seats c.requires.hand c.args.looker.now.phase c.requires.round.0 on c.args.shard c.args.a.0 c.requires.held before at

pub give_back-requires-clause-settling : goal.give_back-requires-clause-settling
give_back-requires-clause-settling g c = let on : GoesOn (c.args.looker.now.phase + 1) c.args.seats.now c.onward.new.seats = (c.onward.auto.seats, c.onward.ensures.seats) in let before : SeatView = get_or c.onward.new.seats c.args.shard c.index-seats-shard.result in
    let all = c.requires.hand.all in let long = c.onward.auto.seats in let low = c.requires.shard in let at = slice_get-get_or c.onward.new.seats c.args.shard c.index-seats-shard.result (omega arith) in
    let h = settling_full c.seats_in_one_hand_are_a_table.ensures.all_keep c.seats_in_one_hand_are_a_table.ensures.entries c.args.pool.now c.args.seats.now c.onward.new.seats c.requires.hand c.args.looker.now.phase c.requires.round.0 on c.args.shard c.args.a.0 c.requires.held before at c.args.shard before at in (ap (λ z. z % 2) h.2 ∙ odd_next c.args.looker.now.phase c.requires.round.1.0, h.1)

pub onward-requires-2-clause-seats : goal.onward-requires-2-clause-seats
onward-requires-2-clause-seats g c = let on : GoesOn (c.args.looker.now.phase + 1) c.args.seats.now c.onward.new.seats = (c.onward.auto.seats, c.onward.ensures.seats) in let before : SeatView = get_or c.onward.new.seats c.args.shard c.index-seats-shard.result in
    let all = c.requires.hand.all in let long = c.onward.auto.seats in let low = c.requires.shard in let at = slice_get-get_or c.onward.new.seats c.args.shard c.index-seats-shard.result (omega arith) in
    let phase = ap (λ (z : SeatView). z.phase) c.onward.ensures.looker in subst (λ z. (j : _) (q : SeatView) → slice_get (set c.onward.new.seats c.args.shard c.give_back.new.seat) j ≡ Some q → (q.pool ≡ c.args.pool.now) × (q.full ≡ true) × (q.phase ≡ z)) (sym phase) (given_full c.seats_in_one_hand_are_a_table.ensures.all_keep c.seats_in_one_hand_are_a_table.ensures.entries c.args.pool.now c.args.seats.now c.onward.new.seats c.requires.hand c.args.looker.now.phase c.requires.round.0 on c.args.shard c.args.a.0 c.requires.held before at c.give_back.new.seat c.give_back.ensures)

pub returns-clause-table : goal.returns-clause-table
returns-clause-table g c = let on : GoesOn (c.args.looker.now.phase + 1) c.args.seats.now c.onward.new.seats = (c.onward.auto.seats, c.onward.ensures.seats) in let before : SeatView = get_or c.onward.new.seats c.args.shard c.index-seats-shard.result in
    let all = c.requires.hand.all in let long = c.onward.auto.seats in let low = c.requires.shard in let at = slice_get-get_or c.onward.new.seats c.args.shard c.index-seats-shard.result (omega arith) in
    let phase = ap (λ (z : SeatView). z.phase) c.onward.ensures.looker in let on' : GoesOn (c.args.looker.now.phase + 1 + 1) (set c.onward.new.seats c.args.shard c.give_back.new.seat) c.onward-2.new.seats = (c.onward-2.auto.seats, (λ j q e. c.onward-2.ensures.seats j q e ∙ ap (λ z. Some (record q { phase = z + 1; notes = [] })) phase)) in
    (given_hand c.seats_in_one_hand_are_a_table.ensures.all_keep c.seats_in_one_hand_are_a_table.ensures.entries c.args.pool.now c.args.seats.now c.onward.new.seats c.requires.hand c.args.looker.now.phase c.requires.round.0 on c.args.shard c.args.a.0 c.requires.held before at c.give_back.new.seat c.give_back.ensures c.seats_in_one_hand_are_a_table.ensures.gives_back c.onward-2.new.seats on').1

pub returns-clause-hand : goal.returns-clause-hand
returns-clause-hand g c = let on : GoesOn (c.args.looker.now.phase + 1) c.args.seats.now c.onward.new.seats = (c.onward.auto.seats, c.onward.ensures.seats) in let before : SeatView = get_or c.onward.new.seats c.args.shard c.index-seats-shard.result in
    let all = c.requires.hand.all in let long = c.onward.auto.seats in let low = c.requires.shard in let at = slice_get-get_or c.onward.new.seats c.args.shard c.index-seats-shard.result (omega arith) in
    let phase = ap (λ (z : SeatView). z.phase) c.onward.ensures.looker in let on' : GoesOn (c.args.looker.now.phase + 1 + 1) (set c.onward.new.seats c.args.shard c.give_back.new.seat) c.onward-2.new.seats = (c.onward-2.auto.seats, (λ j q e. c.onward-2.ensures.seats j q e ∙ ap (λ z. Some (record q { phase = z + 1; notes = [] })) phase)) in
    (given_hand c.seats_in_one_hand_are_a_table.ensures.all_keep c.seats_in_one_hand_are_a_table.ensures.entries c.args.pool.now c.args.seats.now c.onward.new.seats c.requires.hand c.args.looker.now.phase c.requires.round.0 on c.args.shard c.args.a.0 c.requires.held before at c.give_back.new.seat c.give_back.ensures c.seats_in_one_hand_are_a_table.ensures.gives_back c.onward-2.new.seats on').0

pub returns-clause-round : goal.returns-clause-round
returns-clause-round g c = let on : GoesOn (c.args.looker.now.phase + 1) c.args.seats.now c.onward.new.seats = (c.onward.auto.seats, c.onward.ensures.seats) in let before : SeatView = get_or c.onward.new.seats c.args.shard c.index-seats-shard.result in
    let all = c.requires.hand.all in let long = c.onward.auto.seats in let low = c.requires.shard in let at = slice_get-get_or c.onward.new.seats c.args.shard c.index-seats-shard.result (omega arith) in
    let phase = ap (λ (z : SeatView). z.phase) c.onward.ensures.looker in let on' : GoesOn (c.args.looker.now.phase + 1 + 1) (set c.onward.new.seats c.args.shard c.give_back.new.seat) c.onward-2.new.seats = (c.onward-2.auto.seats, (λ j q e. c.onward-2.ensures.seats j q e ∙ ap (λ z. Some (record q { phase = z + 1; notes = [] })) phase)) in
    let now : c.onward-2.new.looker.phase ≡ c.args.looker.now.phase + 1 + 1 = ap (λ (z : SeatView). z.phase) c.onward-2.ensures.looker ∙ ap (λ z. z + 1) phase in let full = ap (λ (z : SeatView). z.full) c.onward-2.ensures.looker ∙ (ap (λ (z : SeatView). z.full) c.onward.ensures.looker ∙ c.requires.round.1.1) in
    (subst (λ z. AreInRound z c.onward-2.new.seats) (sym now) (given_round c.seats_in_one_hand_are_a_table.ensures.all_keep c.seats_in_one_hand_are_a_table.ensures.entries c.args.pool.now c.args.seats.now c.onward.new.seats c.requires.hand c.args.looker.now.phase c.requires.round.0 on c.args.shard c.args.a.0 c.requires.held before at c.give_back.new.seat c.give_back.ensures c.seats_in_one_hand_are_a_table.ensures.gives_back c.onward-2.new.seats on' c.requires.round.1.0), (ap (λ z. z % 2) now ∙ even_next c.args.looker.now.phase c.requires.round.1.0, full), omega arith)
