use Rattle.std.proofs.Common.{◌≡◌, ◌+◌, ◌≤◌, ◌++◌, length, take}
use Rattle.std.specs.List.{flat_map}
use Rattle.bng_ppp.specs.Said.{payloads}
use Rattle.bng_forward.specs.Framing.{session_frame}
use Rattle.bng_steps.specs.Deed.{frame_outs}
use Rattle.bng_steps.proofs.drive.send_at.Given as goal

abbrev pub invariant-loop-frame : goal.invariant-loop-frame
invariant-loop-frame l = record {
  sent : l.outs.items ≡ l.fn.outs.items ++ flat_map (λ f. frame_outs l.at l.number l.port (session_frame l.mac l.port.mac l.session.0 f)) (payloads (take l.frame-index l.frames));
  capacity : l.outs.room ≡ l.fn.outs.room;
  few : length l.outs.items ≤ length l.fn.outs.items + l.frame-index;
}
