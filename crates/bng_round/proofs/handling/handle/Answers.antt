use Rattle.std.proofs.Common.{sym, ap, ◌∙◌, arith}
use Rattle.bng_turn.specs.Views.{SeatView}
use Rattle.bng_base.specs.declared.item.Entry.{Entry}
use Rattle.bng_round.specs.declared.mark.Mark.{Mark}
use Rattle.bng_round.specs.Booking.{mark_of}
use Rattle.bng_round.specs.Views.{PlacedView}
use Rattle.bng_steps.specs.Protocol.{entry_of}
use Rattle.bng_round.proofs.Following.{follows_more}
use Rattle.bng_round.proofs.Entering.{next_of, can_of, few_of, booked, hold_of}
use Rattle.bng_round.proofs.handling.handle.Goals as goal

pub enter-state-requires-clause-few : goal.enter-state-requires-clause-few
enter-state-requires-clause-few g c =
    let few = few_of c.args.turn.now.opening c.args.seat.now (entry_of c.args.at.seat c.args.at.place c.args.now c.args.item.now) c.requires.set c.requires.due in
    omega (arith, few)

pub step-done-requires-clause-hold : goal.step-done-requires-clause-hold
step-done-requires-clause-hold g c = hold_of c.args.pool.now c.args.turn.now.opening c.enter-state.result c.enter-state.new.seat.seen c.enter-state.ensures.state c.requires.hold

pub step-done-requires-clause-next : goal.step-done-requires-clause-next
step-done-requires-clause-next g c =
    let in_turn = c.enter-state.ensures in
    next_of c.args.turn.now.opening c.enter-state.result c.enter-state.new.seat.seen c.args.seat.now (entry_of c.args.at.seat c.args.at.place c.args.now c.args.item.now) in_turn.state in_turn.own c.requires.due

pub step-done-requires-clause-can : goal.step-done-requires-clause-can
step-done-requires-clause-can g c =
    let in_turn = c.enter-state.ensures in
    let a : Entry = entry_of c.args.at.seat c.args.at.place c.args.now c.args.item.now in
    let next = next_of c.args.turn.now.opening c.enter-state.result c.enter-state.new.seat.seen c.args.seat.now a in_turn.state in_turn.own c.requires.due in
    can_of c.args.turn.now.opening c.enter-state.result c.enter-state.new.seat.seen a c.requires.set in_turn.state next

pub leave-requires-clause-state : goal.leave-requires-clause-state
leave-requires-clause-state g c =
    let in_turn = c.enter-state.ensures in let did = c.step-done.ensures in (
      mark_of did.effect,
      follows_more c.args.turn.now.opening c.enter-state.result c.step-done.new.self c.enter-state.new.seat.seen c.enter-state.new.seat.number did.effect in_turn.state did.is_step
          (ap (λ (e : Entry). e.seat) did.asked_is ∙ (c.requires.due.number ∙ sym (ap (λ (z : SeatView PlacedView Mark). z.number) in_turn.seat))),
    )

pub returns : goal.returns
returns g c =
    let in_turn = c.enter-state.ensures in let did = c.step-done.ensures in let out = c.leave.ensures.left in
    booked c.args.turn.now.opening c.enter-state.result c.step-done.new.self c.args.seat.now c.enter-state.new.seat c.leave.new.seat out.0 (entry_of c.args.at.seat c.args.at.place c.args.now c.args.item.now) c.step-done.result
    in_turn.seat out.1 in_turn.state did out.2
