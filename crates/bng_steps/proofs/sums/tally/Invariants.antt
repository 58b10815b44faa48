use Rattle.std.proofs.Common.{◌+◌, ◌*◌, ◌^◌, take}
use Rattle.bng_steps.specs.Sums.{IsLow, Rises}
use Rattle.bng_steps.proofs.sums.tally.Given as goal

abbrev pub invariant-loop-out : goal.invariant-loop-out
invariant-loop-out l = record {
  so_far : Rises l.fn.tally (take l.out-index l.outs) l.tally;
  low : IsLow (2 ^ 63 + 2 ^ 16 * l.out-index) l.tally;
}
