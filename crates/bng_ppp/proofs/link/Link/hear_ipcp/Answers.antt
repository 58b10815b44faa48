use Rattle.std.proofs.Common.{ℕ, ◌∙◌, ap, subst}
use Rattle.bng_ppp_wire.specs.View.{packet_of}
use Rattle.bng_ppp.specs.LinkFrame.{HearsIpcpWithin}
use Rattle.bng_ppp.specs.LinkState.{LinkState}
use Rattle.bng_ppp.specs.LinkStep.{turn_of}
use Rattle.bng_ppp.proofs.link.Link.hear_ipcp.Goals as goal

pub returns : goal.returns
returns c =
    let P : ℕ → Type 0 = λ m. HearsIpcpWithin m c.args.rules.now (packet_of c.args.packet.now) c.args.now (turn_of c.args.self.now c.args.steps.now) (turn_of c.hear_ipcp_within.new.self c.hear_ipcp_within.new.steps) in
    subst P (c.mru-mru.ensures.mru ∙ ap (λ (s : LinkState). s.lcp.kept.mru) c.self.view_is)
    c.hear_ipcp_within.ensures
