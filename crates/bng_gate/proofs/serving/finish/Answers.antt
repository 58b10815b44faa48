-- The turns so far, of the ending and of the grace, and the one that this iteration made.
use Rattle.std.proofs.Common.{◌≡◌, false, arith, refl, sym, ◌∙◌, [], ◌∷◌, ◌++◌}
use Rattle.bng_base.specs.Stretch.{Outside}
use Rattle.bng_base.proofs.StretchLaws.{extends_none}
use Rattle.bng_base.proofs.ChainLaws.{chain_more}
use Rattle.bng_desk.specs.Model.{state_of}
use Rattle.bng_gate.specs.Serving.{MadeEnd, GoesEnding, is_late}
use Rattle.bng_gate.proofs.States.{MakesLate, late, left, makes_late, not_serving}
use Rattle.bng_gate.proofs.Turns.{late_made, told_end, noted_end, stays_over}
use Rattle.bng_gate.proofs.Faults.{fails_finishing}
use Rattle.bng_gate.proofs.serving.finish.Goals as goal

pub ending-init : goal.ending-init
ending-init g c = record {
  ends = [];
  run = refl;
  told = extends_none (record { plant = g.P.Plant.told c.args.plant.now; clock = g.C.Clock.told c.args.clock.now; trace = g.T.Trace.told c.args.trace.now });
  noted = refl;
  over = not_serving c.args.desk.now c.requires.over;
  later = c.requires.later;
}

pub ending-preserved : goal.ending-preserved
ending-preserved g c =
    let first : Outside = record { plant = g.P.Plant.told c.args.plant.now; clock = g.C.Clock.told c.args.clock.now; trace = g.T.Trace.told c.args.trace.now } in
    let mid : Outside = record { plant = g.P.Plant.told c.ending.plant; clock = g.C.Clock.told c.ending.clock; trace = g.T.Trace.told c.ending.trace } in
    let last : Outside = record { plant = g.P.Plant.told c.turn-made.new.plant; clock = g.C.Clock.told c.turn-made.new.clock; trace = g.T.Trace.told c.turn-made.new.trace } in
    let so_far = c.ending.invariant in
    let d = c.ending.desk in
    let here : MakesLate d c.turn-made.new.self mid last c.turn-made.result = makes_late d c.turn-made.new.self mid last c.turn-made.result c.turn-made.ensures.ending c.turn-made.ensures.grace (late d (sym c.is_late.ensures.stands ∙ c.ending-test.true)) in
    let m : MadeEnd = record { desk = d; turn = here.turn } in
    record {
      ends = so_far.ends ++ m ∷ [];
      run = chain_more GoesEnding c.args.desk.now d c.turn-made.new.self so_far.ends m so_far.run (refl, here.step, here.stands);
      told = told_end so_far.ends m first mid last so_far.told here.told;
      noted = noted_end so_far.ends m so_far.noted (here.fault ∙ sym c.is_fault.ensures ∙ c.if-is_fault.false);
      over = stays_over d c.turn-made.new.self here.turn here.step ∙ so_far.over;
      later = here.moment;
    }

pub ending-smaller : goal.ending-smaller
ending-smaller g c = c.turn-made.ensures.nearer (late c.ending.desk (sym c.is_late.ensures.stands ∙ c.ending-test.true))

pub returns-then-is_fault-clause-failed : goal.returns-then-is_fault-clause-failed
returns-then-is_fault-clause-failed g c =
    let first : Outside = record { plant = g.P.Plant.told c.args.plant.now; clock = g.C.Clock.told c.args.clock.now; trace = g.T.Trace.told c.args.trace.now } in
    let mid : Outside = record { plant = g.P.Plant.told c.ending.plant; clock = g.C.Clock.told c.ending.clock; trace = g.T.Trace.told c.ending.trace } in
    let last : Outside = record { plant = g.P.Plant.told c.turn-made.new.plant; clock = g.C.Clock.told c.turn-made.new.clock; trace = g.T.Trace.told c.turn-made.new.trace } in
    let so_far = c.ending.invariant in
    let d = c.ending.desk in
    let here : MakesLate d c.turn-made.new.self mid last c.turn-made.result = makes_late d c.turn-made.new.self mid last c.turn-made.result c.turn-made.ensures.ending c.turn-made.ensures.grace (late d (sym c.is_late.ensures.stands ∙ c.ending-test.true)) in
    fails_finishing c.args.desk.now d c.turn-made.new.self first mid last so_far.ends here.turn so_far.run here.step here.stands so_far.told here.told so_far.noted
    (here.fault ∙ sym c.is_fault.ensures ∙ c.if-is_fault.true)
    (omega (arith, late_made c.args.desk.now d so_far.ends so_far.run, c.is_late.ensures.few, c.is_late.ensures.few_graces))

pub returns-clause-finished : goal.returns-clause-finished
returns-clause-finished g c =
    let so_far = c.ending.invariant in
    let d = c.ending.desk in
    let no_more : is_late (state_of d) ≡ false = sym c.is_late.ensures.stands ∙ c.ending-test.false in
    record {
      ends = so_far.ends;
      run = so_far.run;
      told = so_far.told;
      noted = so_far.noted;
      within = omega (arith, late_made c.args.desk.now d so_far.ends so_far.run, c.is_late.ensures.few, c.is_late.ensures.few_graces);
      over = left d so_far.over no_more;
    }
