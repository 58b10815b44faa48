use Rattle.std.proofs.Common.{◌≡◌, ◌+◌, ◌≤◌, length}
use Rattle.bng_steps.specs.Placed.{ArePlaced}
use Rattle.bng_steps.specs.TermRows.{KeepSums, whole}
use Rattle.bng_steps.proofs.Timing.{EndsOn}
use Rattle.bng_steps.proofs.timers.end_sessions.Given as goal

abbrev pub invariant-loop : goal.invariant-loop
invariant-loop g l = record {
  on : EndsOn l.counter l.rules l.at (whole l.fn.served l.fn.terms) (whole l.served l.terms) l.fn.outs.items l.outs.items;
  sums : KeepSums l.fn.terms l.terms;
  placed : ArePlaced l.rules l.served.sessions;
  capacity : l.outs.room ≡ l.fn.outs.room;
  few : length l.outs.items ≤ length l.fn.outs.items + l.counter;
}
