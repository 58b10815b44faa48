use Rattle.std.proofs.Common.{◌≡◌}
use Rattle.bng_gate.specs.Run.{BindsPorts}
use Rattle.bng_gate.proofs.top.bind_ports.Given as goal

-- the ports so far were bound, and no bind failed
abbrev pub invariant-loop-place : goal.invariant-loop-place
invariant-loop-place g l =
    record {
      bound : BindsPorts l.place l.ports (g.P.Plant.told l.fn.plant) (g.P.Plant.told l.plant);
      unfailed : (g.P.Plant.told l.plant).faults ≡ (g.P.Plant.told l.fn.plant).faults;
    }
