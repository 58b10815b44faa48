use Rattle.std.proofs.Common.{ap, subst, refl, List, ℕ, Some, None}
use Rattle.bng_auth.specs.declared.step.AuthStep.TheVariants.{Ask, Again, Ignore}
use Rattle.bng_ppp_wire.specs.View.{packet_of}
use Rattle.bng_ppp.specs.Claims.{claim_of}
use Rattle.bng_ppp.specs.Layers.{Turn}
use Rattle.bng_ppp.specs.LinkFrame.{HearsAuth}
use Rattle.bng_ppp.specs.LinkState.{LinkState}
use Rattle.bng_ppp.specs.Said.{Said, payloads}
use Rattle.bng_ppp.specs.LinkStep.{turn_of}
use Rattle.bng_ppp.proofs.link.Link.hear_auth.Goals as goal

pub returns-in-Ask : goal.returns-in-Ask
returns-in-Ask c =
    let i = c.self.inside in
    let old : LinkState = record { lcp = i.lcp; auth = i.auth; auth_due = i.auth_due; ipcp = i.ipcp; next_challenge = i.next_challenge; live = i.live } in
    let after : Turn = record (turn_of (record old { auth = c.take.new.self; auth_due = None }) c.args.steps.now) { asked = Some (claim_of c.in-Ask.credentials) } in
    let P : LinkState → Type 0 = λ s. HearsAuth c.args.rules.now (packet_of c.args.packet.now) c.args.now c.args.random.now (turn_of s c.args.steps.now) after in
    subst P c.self.view_is (record { step = Ask c.in-Ask.credentials; auth = c.take.new.self; takes = c.in-Ask.ensures; does = refl })

pub returns-in-Again : goal.returns-in-Again
returns-in-Again c =
    let i = c.self.inside in
    let old : LinkState = record { lcp = i.lcp; auth = i.auth; auth_due = i.auth_due; ipcp = i.ipcp; next_challenge = i.next_challenge; live = i.live } in
    let with_outs : List (List ℕ) → Turn = λ outs. record (turn_of (record old { auth = c.take.new.self }) c.args.steps.now) { outs = outs } in
    let P : LinkState → Type 0 = λ s. HearsAuth c.args.rules.now (packet_of c.args.packet.now) c.args.now c.args.random.now (turn_of s c.args.steps.now) (with_outs (payloads c.send_reply.new.steps.outs.items)) in
    subst P c.self.view_is (record { step = Again c.in-Again.reply; auth = c.take.new.self; takes = c.in-Again.ensures; does = ap with_outs (ap (λ (s : Said). s.outs) c.send_reply.ensures.said) })

pub returns-in-Ignore : goal.returns-in-Ignore
returns-in-Ignore c =
    let i = c.self.inside in
    let old : LinkState = record { lcp = i.lcp; auth = i.auth; auth_due = i.auth_due; ipcp = i.ipcp; next_challenge = i.next_challenge; live = i.live } in
    let after : Turn = turn_of (record old { auth = c.take.new.self }) c.args.steps.now in
    let P : LinkState → Type 0 = λ s. HearsAuth c.args.rules.now (packet_of c.args.packet.now) c.args.now c.args.random.now (turn_of s c.args.steps.now) after in
    subst P c.self.view_is (record { step = Ignore; auth = c.take.new.self; takes = c.in-Ignore.ensures; does = refl })
