use Rattle.std.proofs.Common.{subst}
use Rattle.bng_ppp_wire.specs.View.{packet_of}
use Rattle.bng_ppp.specs.IpcpState.{IpcpState}
use Rattle.bng_ppp.specs.IpcpPacket.{IpcpReplies}
use Rattle.bng_ppp.specs.Said.{said}
use Rattle.bng_ppp.proofs.IpcpReplyLaws.{so_far, ipcp_changed, ipcp_ignored}
use Rattle.bng_ppp.proofs.ipcp.Ipcp.reply.Goals as goal

pub returns-in-Changed-clause-replies : goal.returns-in-Changed-clause-replies
returns-in-Changed-clause-replies c =
    let old : IpcpState = record { machine = c.self.inside.machine; ask = c.self.inside.ask; kept = c.self.inside.kept } in
    let P : IpcpState → Type 0 = λ m. IpcpReplies (packet_of c.args.packet.now) c.args.now (so_far m (said c.args.steps.now)) (so_far c.took-in-Changed.new.self (said c.took-in-Changed.new.steps)) in
    subst P c.self.view_is (ipcp_changed (packet_of c.args.packet.now) c.args.now old (said c.args.steps.now) c.on_reply.new.self _ c.in-Changed.ensures c.took-in-Changed.ensures.follows)

pub returns-in-Ignored-clause-replies : goal.returns-in-Ignored-clause-replies
returns-in-Ignored-clause-replies c =
    let old : IpcpState = record { machine = c.self.inside.machine; ask = c.self.inside.ask; kept = c.self.inside.kept } in
    let P : IpcpState → Type 0 = λ m. IpcpReplies (packet_of c.args.packet.now) c.args.now (so_far m (said c.args.steps.now)) (so_far (record old { ask = c.on_reply.new.self }) (said c.args.steps.now)) in
    subst P c.self.view_is (ipcp_ignored (packet_of c.args.packet.now) c.args.now old (said c.args.steps.now) c.on_reply.new.self c.in-Ignored.ensures)
