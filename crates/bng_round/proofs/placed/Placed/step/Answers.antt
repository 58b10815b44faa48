use Rattle.std.proofs.Common.{refl, sym, subst}
use Rattle.bng_base.specs.declared.book.Book.{Book}
use Rattle.bng_pool.specs.Seats.{IsInRound}
use Rattle.bng_round.specs.Booking.{CanHandle, HandlesAs, IsNext, Steps}
use Rattle.bng_round.specs.Views.{PlacedView}
use Rattle.bng_round.proofs.Answering.{asks_of}
use Rattle.bng_round.proofs.Holding.{free_of}
use Rattle.bng_round.proofs.Stepping.{steps_of}
use Rattle.bng_steps.specs.Protocol.{entry_of, entry_with}
use Rattle.bng_round.proofs.placed.Placed.step.Goals as goal

pub step_with-fate-requires-clause-free : goal.step_with-fate-requires-clause-free
step_with-fate-requires-clause-free g c =
    let v : PlacedView = record { shard = g.S.Seated.seen c.self.inside.shard; hold = c.self.inside.hold; lists = c.self.inside.lists.items; moment = c.self.inside.moment; last = c.self.inside.last } in
    let round : IsInRound v.hold = subst (λ (z : PlacedView). IsInRound z.hold) (sym c.self.view_is) c.requires.hold.round in
    let can : CanHandle v c.args.item.now.kind = subst (λ (z : PlacedView). CanHandle z c.args.item.now.kind) (sym c.self.view_is) c.requires.can in
    free_of c.ask-claim.result v.hold c.ask-claim.new.hold _ (asks_of c.wish-wish.result c.ask-claim.result v.hold c.ask-claim.new.hold round c.ask-claim.ensures.asked) can.held

pub returns : goal.returns
returns g c =
    let v : PlacedView = record { shard = g.S.Seated.seen c.self.inside.shard; hold = c.self.inside.hold; lists = c.self.inside.lists.items; moment = c.self.inside.moment; last = c.self.inside.last } in
    let v' : PlacedView = record { shard = g.S.Seated.seen c.step_with-fate.new.self; hold = c.ask-claim.new.hold; lists = c.self.inside.lists.items; moment = c.self.inside.moment; last = record { fate = c.step_with-fate.result; passed = c.step_with-fate.new.ledger } } in
    let round : IsInRound v.hold = subst (λ (z : PlacedView). IsInRound z.hold) (sym c.self.view_is) c.requires.hold.round in
    let next : IsNext v (entry_of c.args.seat c.args.place c.args.now c.args.item.now) = subst (λ (z : PlacedView). IsNext z (entry_of c.args.seat c.args.place c.args.now c.args.item.now)) (sym c.self.view_is) c.requires.next in
    let can : CanHandle v c.args.item.now.kind = subst (λ (z : PlacedView). CanHandle z c.args.item.now.kind) (sym c.self.view_is) c.requires.can in
    let did = subst (λ (b : Book). HandlesAs v.shard v'.shard (entry_with c.ask-claim.result c.args.seat c.args.place c.args.now c.args.item.now) c.step_with-fate.result b c.step_with-fate.new.ledger) c.empty-passed.ensures c.step_with-fate.ensures in
    subst (λ (z : PlacedView). Steps z (entry_of c.args.seat c.args.place c.args.now c.args.item.now) (record { fate = c.step_with-fate.result; passed = c.step_with-fate.new.ledger }) v') c.self.view_is
    (steps_of c.steps_meet_laws.ensures.laws v v' c.args.seat c.args.place c.args.now c.args.item.now c.wish-wish.result c.ask-claim.result c.step_with-fate.result c.step_with-fate.new.ledger round next can c.wish-wish.ensures.wished c.ask-claim.ensures.asked did refl refl refl)
