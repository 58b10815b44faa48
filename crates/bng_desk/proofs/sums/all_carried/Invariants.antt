use Rattle.std.proofs.Common.{◌≡◌, ◌≤◌, length, map, take, vec_capacity}
use Rattle.bng_desk.specs.Model.{carried_on}
use Rattle.bng_desk.proofs.sums.all_carried.Given as goal

-- what the circuits so far carried
abbrev pub invariant-loop-line : goal.invariant-loop-line
invariant-loop-line l = record {
  are : l.traffic.items ≡ map (carried_on l.shards) (take l.line-index l.lines);
  done : length l.traffic.items ≡ l.line-index;
  room : length l.lines ≤ vec_capacity l.traffic;
}
