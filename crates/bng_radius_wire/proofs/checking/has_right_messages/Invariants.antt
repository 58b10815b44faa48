use Rattle.std.proofs.Common.{◌≤◌, ◌-◌, length}
use Rattle.bng_radius_wire.specs.Grammar.{Packet, IsSpelled}
use Rattle.bng_radius_wire.proofs.Checks.{Checked}
use Rattle.bng_radius_wire.proofs.checking.has_right_messages.Given as goal

abbrev pub invariant-loop-at : goal.invariant-loop-at
invariant-loop-at l = record {
  within : l.start ≤ length l.packet;
  checked : (p : Packet) → IsSpelled p l.packet → Checked p l.request l.secret l.start l.packet;
}

abbrev pub decreases-loop-at : goal.decreases-loop-at
decreases-loop-at l = length l.packet - l.start
