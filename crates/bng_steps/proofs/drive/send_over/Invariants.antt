use Rattle.std.proofs.Common.{◌≡◌, ◌+◌, ◌≤◌, ◌++◌, length, take}
use Rattle.std.specs.List.{flat_map}
use Rattle.bng_ppp.specs.Said.{payloads}
use Rattle.bng_steps.specs.Link.{data_outs}
use Rattle.bng_steps.proofs.drive.send_over.Given as goal

abbrev pub invariant-loop-frame : goal.invariant-loop-frame
invariant-loop-frame l = record {
  sent : l.outs.items ≡ l.fn.outs.items ++ flat_map (λ f. data_outs l.at l.called f) (payloads (take l.frame-index l.frames));
  capacity : l.outs.room ≡ l.fn.outs.room;
  few : length l.outs.items ≤ length l.fn.outs.items + l.frame-index;
}
