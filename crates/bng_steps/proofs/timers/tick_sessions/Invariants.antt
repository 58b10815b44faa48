use Rattle.std.proofs.Common.{◌≡◌, ◌+◌, ◌*◌, ◌≤◌, length}
use Rattle.bng_steps.specs.Placed.{ArePlaced}
use Rattle.bng_steps.specs.TermRows.{KeepSums, whole}
use Rattle.bng_steps.proofs.Timing.{TicksOn}
use Rattle.bng_steps.proofs.timers.tick_sessions.Given as goal

abbrev pub invariant-loop : goal.invariant-loop
invariant-loop g l = record {
  on : TicksOn l.counter l.incoming.rules.now l.incoming.at l.incoming.moment l.incoming.item.now.random (whole l.fn.served l.fn.terms) (whole l.served l.terms) l.fn.outs.items l.outs.items;
  sums : KeepSums l.fn.terms l.terms;
  placed : ArePlaced l.incoming.rules.now l.served.sessions;
  capacity : l.outs.room ≡ l.fn.outs.room;
  few : length l.outs.items ≤ length l.fn.outs.items + 3 * l.counter;
}
