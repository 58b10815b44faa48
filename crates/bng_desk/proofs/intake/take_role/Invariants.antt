use Rattle.std.proofs.Common.{◌≡◌, ◌+◌, List, length}
use Rattle.bng_base.specs.FateOf.{Arrival}
use Rattle.bng_desk.proofs.TakeLaws.{Taken}
use Rattle.bng_desk.proofs.intake.take_role.Given as goal

-- what was taken so far
abbrev pub invariant-loop-taken : goal.invariant-loop-taken
invariant-loop-taken g l =
    let told = g.P.Plant.told in
    record {
      arrivals : List Arrival;
      count : length arrivals ≡ l._taken;
      taken : Taken l.role (told l.fn.plant) (told l.plant) l.fn.draws l.draws l.fn.items.items l.items.items l.quiet arrivals;
      number : length l.items.items ≡ length l.fn.items.items + l._taken;
      capacity : l.items.room ≡ l.fn.items.room;
    }
