use Rattle.std.proofs.Common.{subst}
use Rattle.bng_ppp.specs.Verdict.{Begins}
use Rattle.bng_ppp.specs.LinkState.{LinkState}
use Rattle.bng_ppp.specs.LinkStep.{turn_of}
use Rattle.bng_ppp.proofs.LinkLaws.{begins}
use Rattle.bng_ppp.proofs.link.Link.begin_term.Goals as goal

pub returns : goal.returns
returns c =
    let i = c.self.inside in
    let old : LinkState = record { lcp = i.lcp; auth = i.auth; auth_due = i.auth_due; ipcp = i.ipcp; next_challenge = i.next_challenge; live = i.live } in
    let P : LinkState → Type 0 = λ s. Begins c.args.rules.now c.args.lease c.args.now (turn_of s c.args.steps.now) (turn_of c.tell_ipcp-2.new.self c.tell_ipcp-2.new.steps) in
    subst P c.self.view_is (begins c.args.rules.now c.args.now c.args.lease (turn_of old c.args.steps.now) (turn_of c.tell_ipcp.new.self c.tell_ipcp.new.steps) _ c.begin.new.self
    c.begin.ensures
    c.tell_ipcp.ensures.moves
    c.tell_ipcp-2.ensures.moves)
