use Rattle.std.proofs.Common.{◌∙◌, ℕ, ap, refl}
use Rattle.bng_base.specs.Packet.{Packet}
use Rattle.bng_l2tp_wire.specs.Messages.{data_text}
use Rattle.bng_lns.specs.Framing.{call_message}
use Rattle.bng_steps.specs.Link.{call_octets}
use Rattle.bng_steps.proofs.drive.push_data.Goals as goal

pub returns-in-Done-clause-items : goal.returns-in-Done-clause-items
returns-in-Done-clause-items c = c.push_message.ensures.items (call_octets c.args.called.now c.args.ppp.now) (ap (λ (f : Packet). f.payload) (c.in-Done.ensures.done refl) ∙ ap (λ (n : ℕ). data_text (call_message c.args.called.now.far n c.args.ppp.now)) c.far_session.ensures)
