use Rattle.std.proofs.Common.{sym, ap, ◌∙◌}
use Rattle.bng_l2tp_wire.specs.View.{avps_of, control_of, said}
use Rattle.bng_l2tp_tunnel.proofs.Answering.{delivers_said, delivers_after}
use Rattle.bng_l2tp_tunnel.proofs.tunnel.Tunnel.hear.Goals as goal

pub returns-in-Deliver-clause-said : goal.returns-in-Deliver-clause-said
returns-in-Deliver-clause-said c =
    delivers_said c.args.self.now (control_of c.args.message.now) c.args.now c.receive.new.self (avps_of c.as_slice.result.now) (said c.deliver.result) c.deliver.ensures.said c.receive.ensures.after
    (ap avps_of c.as_slice.ensures.value) (sym c.receive.ensures.answer ∙ c.in-Deliver.is)

pub returns-in-Deliver-clause-after : goal.returns-in-Deliver-clause-after
returns-in-Deliver-clause-after c =
    delivers_after c.args.self.now (control_of c.args.message.now) c.args.now c.receive.new.self (avps_of c.as_slice.result.now) c.deliver.new.self c.deliver.ensures.after c.receive.ensures.after
    (ap avps_of c.as_slice.ensures.value) (sym c.receive.ensures.answer ∙ c.in-Deliver.is)
