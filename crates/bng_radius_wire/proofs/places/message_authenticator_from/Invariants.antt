use Rattle.std.proofs.Common.{◌≤◌, ◌-◌, List, length, drop}
use Rattle.bng_radius_wire.specs.Attributes.{Field, AreAttributes}
use Rattle.bng_radius_wire.proofs.Walks.{Walked}
use Rattle.bng_radius_wire.proofs.places.message_authenticator_from.Given as goal

abbrev pub invariant-loop-at : goal.invariant-loop-at
invariant-loop-at l = record {
  within : l.at ≤ length l.packet;
  walked : (fs : List Field) → AreAttributes fs (drop l.start l.packet) → Walked fs l.start l.at l.packet;
}

abbrev pub decreases-loop-at : goal.decreases-loop-at
decreases-loop-at l = length l.packet - l.at
