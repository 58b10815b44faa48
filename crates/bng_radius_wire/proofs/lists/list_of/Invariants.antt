use Rattle.std.proofs.Common.{◌≤◌, length}
use Rattle.bng_radius_wire.specs.Attributes.{Fits, text, fields}
use Rattle.bng_base.proofs.PieceLaws.{Reads}
use Rattle.bng_radius_wire.proofs.lists.list_of.Given as goal

abbrev pub invariant-loop-rest : goal.invariant-loop-rest
invariant-loop-rest l = record {
  reads : Reads Fits text 64 l.octets l.rest (fields l.found.items) l.many;
  few : length l.found.items ≤ 64;
}

abbrev pub decreases-loop-rest : goal.decreases-loop-rest
decreases-loop-rest l = length l.rest
