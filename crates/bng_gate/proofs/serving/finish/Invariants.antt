use Rattle.std.proofs.Common.{◌≡◌, ◌≤◌, true, List}
use Rattle.bng_base.specs.Stretch.{Extends}
use Rattle.bng_desk.specs.Model.{is_over, left_of}
use Rattle.bng_gate.specs.Serving.{MadeEnd, EndRun, ending_stretch, AreNoted}
use Rattle.bng_gate.proofs.serving.finish.Given as goal

-- the turns so far, and serving stays over
abbrev pub invariant-ending : goal.invariant-ending
invariant-ending g l =
    record {
      ends : List MadeEnd;
      run : EndRun l.fn.desk ends l.desk;
      told : Extends (record { plant = g.P.Plant.told l.fn.plant; clock = g.C.Clock.told l.fn.clock; trace = g.T.Trace.told l.fn.trace }) (record { plant = g.P.Plant.told l.plant; clock = g.C.Clock.told l.clock; trace = g.T.Trace.told l.trace }) (ending_stretch ends);
      noted : AreNoted (ending_stretch ends);
      over : is_over l.desk ≡ true;
      later : l.desk.moment ≤ (g.C.Clock.told l.clock).last;
    }

abbrev pub decreases-ending : goal.decreases-ending
decreases-ending g l = left_of l.desk
