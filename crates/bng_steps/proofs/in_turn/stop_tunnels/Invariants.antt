use Rattle.std.proofs.Common.{◌≡◌, ◌+◌, ◌≤◌, length}
use Rattle.bng_lns.specs.Timed.{stopped}
use Rattle.bng_steps.specs.State.{with_tunnels}
use Rattle.bng_steps.proofs.Tunnelling.{TellsOn}
use Rattle.bng_steps.proofs.in_turn.stop_tunnels.Given as goal

abbrev pub invariant-loop-place : goal.invariant-loop-place
invariant-loop-place g l = record {
  on : TellsOn stopped l.place l.at l.now l.fn.served.tunnels l.served.tunnels l.fn.outs.items l.outs.items;
  others : l.served ≡ with_tunnels l.fn.served l.served.tunnels;
  capacity : l.outs.room ≡ l.fn.outs.room;
  few : length l.outs.items ≤ length l.fn.outs.items + l.place;
}
