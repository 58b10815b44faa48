use Rattle.std.proofs.Common.{◌≡◌, ◌≤◌, ◌-◌, false, List, length, take}
use Rattle.std.specs.List.{list_any}
use Rattle.bng_base.specs.Stretch.{Extends}
use Rattle.bng_gate.specs.Serving.{Made, Run, run_stretch, took_stop, AreNoted}
use Rattle.bng_gate.proofs.serving.serve.Given as goal

-- the turns so far: none but the last took `stop`, and the trace took each of their rounds
abbrev pub invariant-serving : goal.invariant-serving
invariant-serving g l =
    record {
      turns : List Made;
      run : Run l.fn.desk turns l.desk;
      told : Extends (record { plant = g.P.Plant.told l.fn.plant; clock = g.C.Clock.told l.fn.clock; trace = g.T.Trace.told l.fn.trace }) (record { plant = g.P.Plant.told l.plant; clock = g.C.Clock.told l.clock; trace = g.T.Trace.told l.trace }) (run_stretch turns);
      noted : AreNoted (run_stretch turns);
      before : list_any took_stop (take (length turns - 1) turns) ≡ false;
      within : length turns ≤ l.fn.desk.rounds;
      later : l.desk.moment ≤ (g.C.Clock.told l.clock).last;
    }

abbrev pub decreases-serving : goal.decreases-serving
decreases-serving g l = l.fn.desk.rounds - l.desk.turns
