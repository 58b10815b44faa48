use Rattle.std.proofs.Common.{◌≡◌, ap, sym, subst}
use Rattle.std.specs.Prelude.{option_map}
use Rattle.bng_auth.specs.Replying.{reply_of}
use Rattle.bng_ppp.specs.Verdict.{Accepts}
use Rattle.bng_ppp.specs.Layers.{begun}
use Rattle.bng_ppp.specs.LinkState.{LinkState}
use Rattle.bng_ppp.specs.Said.{Said, payloads}
use Rattle.bng_ppp.specs.LinkStep.{turn_of}
use Rattle.bng_ppp.proofs.LinkLaws.{accepts}
use Rattle.bng_ppp.proofs.link.Link.accept.Goals as goal

pub returns : goal.returns
returns c =
    let i = c.self.inside in
    let old : LinkState = record { lcp = i.lcp; auth = i.auth; auth_due = i.auth_due; ipcp = i.ipcp; next_challenge = i.next_challenge; live = i.live } in
    let P : LinkState → Type 0 = λ s. Accepts c.args.rules.now c.args.lease c.args.text.now c.args.now s (turn_of c.begin_for.new.self c.begin_for.new.steps) in
    subst P c.self.view_is (accepts c.args.rules.now c.args.now c.args.lease c.args.text.now old (turn_of old c.args.steps.now) (turn_of c.begin_for.new.self c.begin_for.new.steps) (option_map reply_of c.settle-reply.result) c.settle-reply.new.self (payloads c.send_reply.new.steps.outs.items)
    c.settle-reply.ensures
    (subst (λ (s : LinkState). turn_of s c.args.steps.now ≡ begun s) (sym c.self.view_is) c.requires.fresh.0)
    (ap (λ (s : Said). s.outs) c.send_reply.ensures.said)
    c.begin_for.ensures)
