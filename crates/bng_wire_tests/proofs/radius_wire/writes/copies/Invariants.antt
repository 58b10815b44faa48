use Rattle.std.proofs.Common.{◌≡◌, length}
use Rattle.std.specs.List.{AllByRecursion}
use Rattle.bng_radius_wire.specs.Attributes.{Fits, fields}
use Rattle.bng_wire_tests.proofs.radius_wire.writes.copies.Given as goal

abbrev pub invariant-loop : goal.invariant-loop
invariant-loop l = record {
  size : length l.list.items ≡ l.counter;
  fit : AllByRecursion Fits (fields l.list.items);
}
