use Rattle.std.proofs.Common.{◌≡◌, ◌*◌}
use Rattle.bng_desk.specs.Intake.{Takes}
use Rattle.bng_desk.specs.Turn.{most_of, ports_up_to}
use Rattle.bng_desk.proofs.intake.take_ports.Given as goal

-- the ports so far were read
abbrev pub invariant-loop-place : goal.invariant-loop-place
invariant-loop-place g l =
    let told = g.P.Plant.told in
    record {
      takes : Takes (ports_up_to l.place) (most_of l.rules) (l.most * l.place) (told l.fn.plant) (told l.plant) l.fn.draws l.draws l.fn.items.items l.items.items l.quiet;
      capacity : l.items.room ≡ l.fn.items.room;
    }
