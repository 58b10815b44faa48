-- The turns so far, and the one that this iteration made.
use Rattle.std.proofs.Common.{◌≡◌, arith, refl, sym, ◌∙◌, [], ◌∷◌, ◌++◌, length-append, false}
use Rattle.bng_base.specs.Stretch.{Outside}
use Rattle.bng_base.proofs.StretchLaws.{extends_none}
use Rattle.bng_base.proofs.ChainLaws.{chain_more}
use Rattle.bng_desk.specs.Model.{state_of}
use Rattle.bng_gate.specs.Serving.{Made, Goes, is_serving}
use Rattle.bng_gate.proofs.States.{serving, over, serving_no, fault_of}
use Rattle.bng_gate.proofs.Turns.{step_turns, run_rounds, run_turns, none_took, none_before, told_turn, noted_turn, turns_left, ended}
use Rattle.bng_gate.proofs.Faults.{fails_serving}
use Rattle.bng_gate.proofs.serving.serve.Goals as goal

pub serving-init : goal.serving-init
serving-init g c = record {
  turns = [];
  run = refl;
  told = extends_none (record { plant = g.P.Plant.told c.args.plant.now; clock = g.C.Clock.told c.args.clock.now; trace = g.T.Trace.told c.args.trace.now });
  noted = refl;
  before = refl;
  within = omega arith;
  later = c.requires.later;
}

pub serving-preserved : goal.serving-preserved
serving-preserved g c =
    let first : Outside = record { plant = g.P.Plant.told c.args.plant.now; clock = g.C.Clock.told c.args.clock.now; trace = g.T.Trace.told c.args.trace.now } in
    let mid : Outside = record { plant = g.P.Plant.told c.serving.plant; clock = g.C.Clock.told c.serving.clock; trace = g.T.Trace.told c.serving.trace } in
    let last : Outside = record { plant = g.P.Plant.told c.turn-turned.new.plant; clock = g.C.Clock.told c.turn-turned.new.clock; trace = g.T.Trace.told c.turn-turned.new.trace } in
    let so_far = c.serving.invariant in
    let d = c.serving.desk in
    let serves = serving d (sym c.is_serving.ensures ∙ c.serving-test.true) in
    let here = c.turn-turned.ensures.serving serves.0 in
    let m : Made = record { desk = d; turn = here.turn } in
    let count = run_turns c.args.desk.now d so_far.turns so_far.run in
    let rounds = run_rounds c.args.desk.now d so_far.turns so_far.run in
    let left = turns_left d serves.1 (omega (arith, so_far.within, c.requires.turns)) in
    record {
      turns = so_far.turns ++ m ∷ [];
      run = chain_more Goes c.args.desk.now d c.turn-turned.new.self so_far.turns m so_far.run (refl, here.step);
      told = told_turn so_far.turns m first mid last so_far.told here.told;
      noted = noted_turn so_far.turns m so_far.noted (fault_of d here.turn c.turn-turned.result here.answer ∙ sym c.is_fault.ensures ∙ c.if-is_fault.false);
      before = none_before so_far.turns m (none_took c.args.desk.now d so_far.turns so_far.run c.requires.serving serves.1);
      within = omega (arith, length-append so_far.turns (m ∷ []), c.requires.turns);
      later = here.moment;
    }

pub serving-smaller : goal.serving-smaller
serving-smaller g c =
    let so_far = c.serving.invariant in
    let d = c.serving.desk in
    let serves = serving d (sym c.is_serving.ensures ∙ c.serving-test.true) in
    let here = c.turn-turned.ensures.serving serves.0 in
    let count = run_turns c.args.desk.now d so_far.turns so_far.run in
    let rounds = run_rounds c.args.desk.now d so_far.turns so_far.run in
    let left = turns_left d serves.1 (omega (arith, so_far.within, c.requires.turns)) in
    omega (arith, step_turns d c.turn-turned.new.self here.turn here.step)

pub returns-then-is_fault-clause-failed : goal.returns-then-is_fault-clause-failed
returns-then-is_fault-clause-failed g c =
    let first : Outside = record { plant = g.P.Plant.told c.args.plant.now; clock = g.C.Clock.told c.args.clock.now; trace = g.T.Trace.told c.args.trace.now } in
    let mid : Outside = record { plant = g.P.Plant.told c.serving.plant; clock = g.C.Clock.told c.serving.clock; trace = g.T.Trace.told c.serving.trace } in
    let last : Outside = record { plant = g.P.Plant.told c.turn-turned.new.plant; clock = g.C.Clock.told c.turn-turned.new.clock; trace = g.T.Trace.told c.turn-turned.new.trace } in
    let so_far = c.serving.invariant in
    let d = c.serving.desk in
    let serves = serving d (sym c.is_serving.ensures ∙ c.serving-test.true) in
    let here = c.turn-turned.ensures.serving serves.0 in
    let count = run_turns c.args.desk.now d so_far.turns so_far.run in
    let rounds = run_rounds c.args.desk.now d so_far.turns so_far.run in
    let left = turns_left d serves.1 (omega (arith, so_far.within, c.requires.turns)) in
    fails_serving c.args.desk.now d c.turn-turned.new.self first mid last so_far.turns here.turn so_far.run here.step so_far.told here.told so_far.noted
    (fault_of d here.turn c.turn-turned.result here.answer ∙ sym c.is_fault.ensures ∙ c.if-is_fault.true)
    (omega (arith, c.requires.turns))
    (none_took c.args.desk.now d so_far.turns so_far.run c.requires.serving serves.1)

pub returns-clause-served : goal.returns-clause-served
returns-clause-served g c =
    let so_far = c.serving.invariant in
    let d = c.serving.desk in
    let no_more : is_serving (state_of d) ≡ false = sym c.is_serving.ensures ∙ c.serving-test.false in
    record {
      turns = so_far.turns;
      run = so_far.run;
      told = so_far.told;
      noted = so_far.noted;
      ends = ended c.args.desk.now d so_far.turns so_far.run c.requires.turns c.requires.serving (over d no_more) so_far.within so_far.before;
      over = serving_no (state_of d) no_more;
    }
