use Rattle.std.proofs.Common.{◌≡◌, ◌+◌, ◌*◌, ◌≤◌, ◌++◌, length, take}
use Rattle.bng_desk.specs.Causes.{causes}
use Rattle.bng_desk.specs.Report.{drop_lines}
use Rattle.bng_desk.proofs.stats.put_drops.Given as goal

-- the lines of the causes so far follow what was written before
abbrev pub invariant-loop-number : goal.invariant-loop-number
invariant-loop-number l = record {
  text : l.text.payload ≡ l.initial.text.payload ++ drop_lines causes (take l.number l.drops);
  few : length l.text.payload ≤ length l.initial.text.payload + 70 * l.number;
  headroom : l.text.headroom ≡ l.initial.text.headroom;
}
