use Rattle.std.proofs.Common.{◌≡◌, ◌+◌, ◌*◌, ◌≤◌, length}
use Rattle.bng_steps.specs.declared.rules.Rules.{Rules}
use Rattle.bng_steps.specs.Placed.{ArePlaced}
use Rattle.bng_steps.specs.TermRows.{KeepSums, whole}
use Rattle.bng_steps.proofs.Reminding.{RemindsOn}
use Rattle.bng_steps.proofs.in_turn.remind_tunnels.Given as goal

abbrev pub invariant-loop-place : goal.invariant-loop-place
invariant-loop-place g l = record {
  on : RemindsOn l.place l.at l.now (whole l.fn.served l.fn.terms) (whole l.served l.terms) l.fn.outs.items l.outs.items;
  sums : KeepSums l.fn.terms l.terms;
  shard : l.served.sessions.shard ≡ l.fn.served.sessions.shard;
  placed : (r : Rules) → ArePlaced r l.fn.served.sessions → ArePlaced r l.served.sessions;
  capacity : l.outs.room ≡ l.fn.outs.room;
  few : length l.outs.items ≤ length l.fn.outs.items + 8 * l.place;
}
