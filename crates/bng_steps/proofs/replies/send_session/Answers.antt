use Rattle.std.proofs.Common.{ap, length, refl}
use Rattle.bng_base.specs.Packet.{Packet}
use Rattle.bng_base.specs.PppoeGrammar.{PppoeFrame, pppoe_text}
use Rattle.bng_discovery.specs.Reply.{pads_of}
use Rattle.bng_steps.proofs.Framing.{frame_goes, was_done}
use Rattle.bng_steps.proofs.replies.send_session.Goals as goal

pub returns-in-Done-clause-items : goal.returns-in-Done-clause-items
returns-in-Done-clause-items c tags are =
    let made : PppoeFrame = pads_of c.args.offers.now c.args.frame.now.src c.args.session.0 tags in
    let short = was_done (length (pppoe_text made)) (c.in-Done.ensures.full tags are) in
    frame_goes c.args.at c.args.number c.args.port.now made _ c.args.outs.now.items c.push_out.new.outs.items (c.between.ensures made refl refl) short (ap (λ (f : Packet). f.payload) (c.in-Done.ensures.done refl tags are)) c.push_out.ensures.items
