use Rattle.std.proofs.Common.{ap, subst}
use Rattle.std.specs.Prelude.{option_map}
use Rattle.bng_auth.specs.Replying.{reply_of}
use Rattle.bng_ppp.specs.Verdict.{Refuses}
use Rattle.bng_ppp.specs.LinkState.{LinkState}
use Rattle.bng_ppp.specs.Said.{Said, payloads}
use Rattle.bng_ppp.specs.LinkStep.{turn_of}
use Rattle.bng_ppp.proofs.LinkLaws.{refuses}
use Rattle.bng_ppp.proofs.link.Link.refuse.Goals as goal

pub returns-clause-refuses : goal.returns-clause-refuses
returns-clause-refuses c =
    let i = c.self.inside in
    let old : LinkState = record { lcp = i.lcp; auth = i.auth; auth_due = i.auth_due; ipcp = i.ipcp; next_challenge = i.next_challenge; live = i.live } in
    let P : LinkState → Type 0 = λ s. Refuses c.args.rules.now c.args.now c.args.random.now c.args.text.now (turn_of s c.args.steps.now) (turn_of c.close.new.self c.close.new.steps) in
    subst P c.self.view_is (refuses c.args.rules.now c.args.now c.args.random.now c.args.text.now (turn_of old c.args.steps.now) _ (option_map reply_of c.settle-reply.result) c.settle-reply.new.self (payloads c.send_reply.new.steps.outs.items)
    c.settle-reply.ensures
    (ap (λ (s : Said). s.outs) c.send_reply.ensures.said)
    c.close.ensures.closes)
