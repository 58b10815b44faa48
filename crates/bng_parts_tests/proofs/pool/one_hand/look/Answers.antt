use Rattle.std.proofs.Common.{◌≡◌, sym, ap, ◌∙◌, subst}
use Rattle.bng_pool.specs.Seats.{SeatView, IsInRound}
use Rattle.bng_pool.specs.OneHand.{AreInRound}
use Rattle.bng_parts_tests.proofs.InHand.{looker_beside, looked_in_hand, noted_hand, noted_round}
use Rattle.bng_parts_tests.proofs.pool.one_hand.look.Goals as goal

pub compare_each-requires-clause-beside : goal.compare_each-requires-clause-beside
compare_each-requires-clause-beside c = looker_beside c.args.pool.now c.args.seats.now c.args.looker.now c.requires.hand c.requires.looker.0 c.requires.looker.1 c.requires.round.0

pub compare_each-requires-2-clause-beside : goal.compare_each-requires-2-clause-beside
compare_each-requires-2-clause-beside c = let hand = (noted_hand c.seats_in_one_hand_are_a_table.ensures.all_keep c.args.pool.now c.args.seats.now c.compare_each.new.others c.requires.hand c.compare_each.ensures.others).0 in
    let rest = c.look-holder.ensures.rest in let more = c.compare_each.ensures.one.rest in let phase : c.look-holder.new.seat.phase ≡ c.args.looker.now.phase = ap (λ (z : SeatView). z.phase) rest ∙ ap (λ (z : SeatView). z.phase) more in
    looker_beside c.args.pool.now c.compare_each.new.others c.look-holder.new.seat hand (ap (λ (z : SeatView). z.pool) rest ∙ (ap (λ (z : SeatView). z.pool) more ∙ c.requires.looker.0)) (ap (λ (z : SeatView). z.number) rest ∙ (ap (λ (z : SeatView). z.number) more ∙ c.requires.looker.1))
    (subst (λ z. AreInRound z c.compare_each.new.others) (sym phase) (noted_round c.args.seats.now c.compare_each.new.others c.args.looker.now.phase c.compare_each.ensures.others c.requires.round.0))

pub returns-clause-table : goal.returns-clause-table
returns-clause-table c = looked_in_hand c.seats_in_one_hand_are_a_table.ensures.looks c.seats_in_one_hand_are_a_table.ensures.all_keep c.args.pool.now c.args.seats.now c.compare_each.new.others c.args.looker.now c.compare_each.new.one c.look-holder.new.seat c.args.a.0 c.look-holder.result
    c.requires.hand c.requires.looker.0 c.requires.looker.1 c.requires.round.1 c.compare_each.ensures.others c.compare_each.ensures.one c.compare_each.ensures.heard c.look-holder.ensures.looked c.look-holder.ensures.without_word c.compare_each-2.ensures.agreed

pub returns-clause-same : goal.returns-clause-same
returns-clause-same c = let keep = c.seats_in_one_hand_are_a_table.ensures.all_keep in let one = noted_hand keep c.args.pool.now c.args.seats.now c.compare_each.new.others c.requires.hand c.compare_each.ensures.others in
    (noted_hand keep c.args.pool.now c.compare_each.new.others c.compare_each-2.new.others one.0 c.compare_each-2.ensures.others).1 ∙ one.1

pub returns-clause-hand : goal.returns-clause-hand
returns-clause-hand c = let keep = c.seats_in_one_hand_are_a_table.ensures.all_keep in let one = noted_hand keep c.args.pool.now c.args.seats.now c.compare_each.new.others c.requires.hand c.compare_each.ensures.others in
    (noted_hand keep c.args.pool.now c.compare_each.new.others c.compare_each-2.new.others one.0 c.compare_each-2.ensures.others).0

pub returns-clause-round : goal.returns-clause-round
returns-clause-round c = let rest = c.look-holder.ensures.rest in let more = c.compare_each.ensures.one.rest in let more' = c.compare_each-2.ensures.one.rest in (
  noted_round c.compare_each.new.others c.compare_each-2.new.others c.args.looker.now.phase c.compare_each-2.ensures.others (noted_round c.args.seats.now c.compare_each.new.others c.args.looker.now.phase c.compare_each.ensures.others c.requires.round.0),
  subst IsInRound (sym more') (subst IsInRound (sym rest) (subst IsInRound (sym more) c.requires.round.1)),
  ap (λ (z : SeatView). z.phase) more' ∙ (ap (λ (z : SeatView). z.phase) rest ∙ ap (λ (z : SeatView). z.phase) more),
)
