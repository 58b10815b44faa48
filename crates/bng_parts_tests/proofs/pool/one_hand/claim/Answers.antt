use Rattle.std.proofs.Common.{get_or, arith}
use Rattle.std.proofs.lemmas.Option.{slice_get-get_or}
use Rattle.bng_pool.specs.Seats.{SeatView}
use Rattle.bng_parts_tests.proofs.InHand.{claim_same, changed_round, noted_round, claimed_in_hand}
use Rattle.bng_parts_tests.proofs.pool.one_hand.claim.Goals as goal

pub compare_at-requires-clause-round : goal.compare_at-requires-clause-round
compare_at-requires-clause-round c = let before : SeatView = get_or c.args.seats.now c.args.shard c.index-seats-shard.result in let all = c.requires.hand.all in let low = c.requires.shard in
    (c.requires.round.0, changed_round c.args.pool.now c.args.seats.now c.requires.hand c.args.shard before c.claim-answer.new.seat (slice_get-get_or c.args.seats.now c.args.shard c.index-seats-shard.result (omega arith)) (claim_same _ _ _ _ c.claim-answer.ensures) c.requires.round.0 c.requires.round.1)

pub returns-clause-table : goal.returns-clause-table
returns-clause-table c = let before : SeatView = get_or c.args.seats.now c.args.shard c.index-seats-shard.result in let all = c.requires.hand.all in let low = c.requires.shard in
    (claimed_in_hand c.seats_in_one_hand_are_a_table.ensures.all_keep c.args.pool.now c.args.seats.now c.compare_at.new.seats c.requires.hand c.args.shard before c.claim-answer.new.seat (slice_get-get_or c.args.seats.now c.args.shard c.index-seats-shard.result (omega arith)) c.requires.round
    c.compare_at.ensures.agreed c.compare_at.ensures.seats c.seats_in_one_hand_are_a_table.ensures.claims c.args.a c.claim-answer.result c.requires.has c.claim-answer.ensures).1

pub returns-clause-hand : goal.returns-clause-hand
returns-clause-hand c = let before : SeatView = get_or c.args.seats.now c.args.shard c.index-seats-shard.result in let all = c.requires.hand.all in let low = c.requires.shard in
    (claimed_in_hand c.seats_in_one_hand_are_a_table.ensures.all_keep c.args.pool.now c.args.seats.now c.compare_at.new.seats c.requires.hand c.args.shard before c.claim-answer.new.seat (slice_get-get_or c.args.seats.now c.args.shard c.index-seats-shard.result (omega arith)) c.requires.round
    c.compare_at.ensures.agreed c.compare_at.ensures.seats c.seats_in_one_hand_are_a_table.ensures.claims c.args.a c.claim-answer.result c.requires.has c.claim-answer.ensures).0

pub returns-clause-round : goal.returns-clause-round
returns-clause-round c phase round = let before : SeatView = get_or c.args.seats.now c.args.shard c.index-seats-shard.result in let all = c.requires.hand.all in let low = c.requires.shard in
    noted_round _ _ phase c.compare_at.ensures.seats (changed_round c.args.pool.now c.args.seats.now c.requires.hand c.args.shard before c.claim-answer.new.seat (slice_get-get_or c.args.seats.now c.args.shard c.index-seats-shard.result (omega arith)) (claim_same _ _ _ _ c.claim-answer.ensures) phase round)
