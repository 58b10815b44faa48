use Rattle.std.proofs.Common.{refl}
use Rattle.bng_base.specs.Stretch.{Outside}
use Rattle.bng_gate.proofs.Whole.{completes_to, fails_to_note}
use Rattle.bng_gate.proofs.top.serve_all.Goals as goal

pub returns-clause-served : goal.returns-clause-served
returns-clause-served g c =
    let old : Outside = record { plant = g.P.Plant.told c.args.plant.now; clock = g.C.Clock.told c.args.clock.now; trace = g.T.Trace.told c.args.trace.now } in
    let opening : Outside = record { plant = g.P.Plant.told c.open_desk.new.plant; clock = g.C.Clock.told c.open_desk.new.clock; trace = g.T.Trace.told c.args.trace.now } in
    let new : Outside = record { plant = g.P.Plant.told c.make_turns.new.plant; clock = g.C.Clock.told c.make_turns.new.clock; trace = g.T.Trace.told c.make_turns.new.trace } in
    completes_to c.args.ready.config c.args.ready.rounds c.requires.few_rounds c.args.ready.seed old opening new c.in-Ok.desk c.make_turns.new.desk c.in-Ok.ensures.opened refl c.in_default.ensures.made

pub returns-in-Err-make_turns-clause-refused : goal.returns-in-Err-make_turns-clause-refused
returns-in-Err-make_turns-clause-refused g c =
    let old : Outside = record { plant = g.P.Plant.told c.args.plant.now; clock = g.C.Clock.told c.args.clock.now; trace = g.T.Trace.told c.args.trace.now } in
    let opening : Outside = record { plant = g.P.Plant.told c.open_desk.new.plant; clock = g.C.Clock.told c.open_desk.new.clock; trace = g.T.Trace.told c.args.trace.now } in
    let new : Outside = record { plant = g.P.Plant.told c.make_turns.new.plant; clock = g.C.Clock.told c.make_turns.new.clock; trace = g.T.Trace.told c.make_turns.new.trace } in
    λ out. (fails_to_note c.args.ready.config c.args.ready.rounds c.requires.few_rounds c.args.ready.seed old opening new c.in-Ok.desk c.make_turns.new.desk c.in-Ok.ensures.opened refl c.in-Err-make_turns.ensures.failed, refl)
