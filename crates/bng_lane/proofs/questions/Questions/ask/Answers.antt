use Rattle.std.proofs.Common.{List, ℕ, false, sym, subst}
use Rattle.std.specs.Prelude.{slice_set}
use Rattle.bng_radius_wire.specs.Grammar.{IsRadius}
use Rattle.bng_radius_wire.specs.Digests.{CanBeSigned}
use Rattle.bng_rad_client.specs.Asking.{IsAsked}
use Rattle.bng_rad_client.specs.declared.rules.Owner.TheVariants.{Ask}
use Rattle.bng_access.specs.Request.{request_of}
use Rattle.bng_lane.specs.State.{LaneState}
use Rattle.bng_lane.specs.Asking.{IsAskedBy}
use Rattle.bng_lane.proofs.Clients.{asks, asks_lane}
use Rattle.bng_lane.proofs.questions.Questions.ask.Goals as goal

pub invariant_of-self : goal.invariant_of-self
invariant_of-self c =
    let p = request_of c.self.inside.nas c.secret.result.now c.args.ask.now c.args.authenticator.now in
    let owner = Ask c.args.ask.now.number.session c.args.ask.now.number.ask in
    asks_lane c.self.inside.client c.ask.new.self owner p c.self.inside.client.secret c.args.now c.in-Sent.id c.in-Sent.frame c.self.invariant c.ask.ensures.others
    (c.in-Sent.ensures.sent p c.write.ensures.request) (λ e. absurd cc)

pub returns-clause-asked : goal.returns-clause-asked
returns-clause-asked c =
    let before : LaneState = record { client = c.self.inside.client; nas = c.self.inside.nas; sent = c.self.inside.sent } in
    let after : ℕ → LaneState = λ i. record before { client = c.ask.new.self; sent = slice_set c.self.inside.sent i false } in
    let p = λ (secret : List ℕ). request_of c.self.inside.nas secret c.args.ask.now c.args.authenticator.now in
    let owner = Ask c.args.ask.now.number.session c.args.ask.now.number.ask in
    let request = c.write.new.into.payload in
    let secret_is = c.secret.ensures.octets in
    subst (λ (l : LaneState). IsAskedBy l c.args.now c.args.ask.now c.args.authenticator.now c.in-Sent.id c.in-Sent.frame.payload (after c.from.result)) c.self.view_is
    (subst (λ (i : ℕ). IsAskedBy before c.args.now c.args.ask.now c.args.authenticator.now c.in-Sent.id c.in-Sent.frame.payload (after i)) (sym c.from.ensures)
    (asks before c.ask.new.self c.args.now c.args.ask.now c.args.authenticator.now c.in-Sent.id c.in-Sent.frame request c.ask.ensures.others
    (subst (λ (s : List ℕ). IsRadius (p s) request) secret_is c.write.ensures.request)
    (subst (λ (s : List ℕ). CanBeSigned (p s)) secret_is c.write.ensures.signable)
    c.self.invariant.size
    (subst (λ (s : List ℕ). IsAsked c.self.inside.client.auth c.ask.new.self.auth owner (p s) c.self.inside.client.secret c.args.now c.in-Sent.id c.in-Sent.frame) secret_is
    (c.in-Sent.ensures.sent (p c.secret.result.now) c.write.ensures.request))
    c.in-Sent.ensures.size))
