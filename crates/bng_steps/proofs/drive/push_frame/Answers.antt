use Rattle.std.proofs.Common.{ap, refl}
use Rattle.bng_base.specs.Packet.{Packet}
use Rattle.bng_pppoe_wire.specs.View.{frame_of}
use Rattle.bng_steps.proofs.drive.push_frame.Goals as goal

pub returns-in-Done-clause-items : goal.returns-in-Done-clause-items
returns-in-Done-clause-items c = c.push_written.ensures.items (frame_of c.args.frame.now) (ap (λ (f : Packet). f.payload) (c.in-Done.ensures.done refl)) (c.between.ensures (frame_of c.args.frame.now) refl refl)
