use Rattle.std.proofs.Common.{refl, subst}
use Rattle.bng_ppp_wire.specs.View.{packet_of}
use Rattle.bng_ppp.specs.LcpState.{LcpState}
use Rattle.bng_ppp.specs.Said.{said}
use Rattle.bng_ppp.specs.ConfigureReply.{Replies}
use Rattle.bng_ppp.proofs.ReplyLaws.{changed, ignored}
use Rattle.bng_ppp.proofs.lcp_link.LcpLink.reply.Goals as goal

pub returns-in-Changed-clause-replies : goal.returns-in-Changed-clause-replies
returns-in-Changed-clause-replies c =
    let old : LcpState = record { lcp = c.self.inside.lcp; ask = c.self.inside.ask; kept = c.self.inside.kept } in
    let P : LcpState → Type 0 = λ m. Replies (packet_of c.args.packet.now) c.args.echo c.args.now c.args.random.now m (said c.took-in-Changed.new.steps) c.took-in-Changed.new.self in
    subst P c.self.view_is (changed (packet_of c.args.packet.now) c.args.echo c.args.now c.args.random.now old c.on_reply.new.self _ _ c.in-Changed.ensures c.took-in-Changed.ensures.moves)

pub returns-in-Ignored-clause-replies : goal.returns-in-Ignored-clause-replies
returns-in-Ignored-clause-replies c =
    let old : LcpState = record { lcp = c.self.inside.lcp; ask = c.self.inside.ask; kept = c.self.inside.kept } in
    let new : LcpState = record old { ask = c.on_reply.new.self } in
    let P : LcpState → Type 0 = λ m. Replies (packet_of c.args.packet.now) c.args.echo c.args.now c.args.random.now m (said c.args.steps.now) new in
    subst P c.self.view_is (ignored (packet_of c.args.packet.now) c.args.echo c.args.now c.args.random.now old c.on_reply.new.self _ new c.in-Ignored.ensures c.requires.quiet refl)
