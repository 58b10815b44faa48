use Rattle.std.proofs.Common.{◌≡◌, ◌*◌, ◌^◌, ◌≤◌, sum, take}
use Rattle.bng_gate.proofs.exercise.line.dropped.Given as goal

-- the items of the causes so far
abbrev pub invariant-loop-items : goal.invariant-loop-items
invariant-loop-items l = record {
  sum : l.sum ≡ sum (take l.items-index l.drops);
  few : l.sum ≤ 2 ^ 64 * l.items-index;
}
