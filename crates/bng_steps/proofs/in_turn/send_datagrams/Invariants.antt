use Rattle.std.proofs.Common.{◌≡◌, ◌+◌, ◌≤◌, ◌++◌, length, take}
use Rattle.bng_l2tp_wire.specs.View.{payloads}
use Rattle.bng_steps.specs.Deed.{tunnel_outs}
use Rattle.bng_steps.proofs.in_turn.send_datagrams.Given as goal

abbrev pub invariant-loop-frame : goal.invariant-loop-frame
invariant-loop-frame l = record {
  sent : l.outs.items ≡ l.fn.outs.items ++ tunnel_outs l.at l.to (payloads (take l.frame-index l.frames));
  capacity : l.outs.room ≡ l.fn.outs.room;
  few : length l.outs.items ≤ length l.fn.outs.items + l.frame-index;
}
