use Rattle.std.proofs.Common.{◌≢◌, refl, sym, ◌∙◌}
use Rattle.bng_radius_wire.specs.Digests.{IsSigned, response_authenticator}
use Rattle.bng_radius_wire.proofs.Spelled.{authenticator_at}
use Rattle.bng_radius_wire.proofs.Digested.{response_is}
use Rattle.bng_radius_wire.proofs.Checks.{same_texts, other_texts}
use Rattle.bng_radius_wire.proofs.checking.check_reply.Goals as goal

pub returns-then-ne-clause-right : goal.returns-then-ne-clause-right
returns-then-ne-clause-right c = λ p is.
    let h = c.packet_in-packet.ensures.spelled p is in
    let digest = response_is p c.packet_in-packet.result.now c.args.request.now c.args.secret.now h in
    let own = authenticator_at p c.packet_in-packet.result.now h in
    let other : p.authenticator ≢ response_authenticator p c.args.request.now c.args.secret.now =
    λ e. other_texts c.response_digest.result c.sixteen_at.result c.if-ne.ensures (c.response_digest.ensures ∙ digest ∙ sym e ∙ sym own ∙ sym c.sixteen_at.ensures) in
    (λ e. absurd cc, λ signed. absurd (other signed.response))

pub returns-then-ne-clause-wrong : goal.returns-then-ne-clause-wrong
returns-then-ne-clause-wrong c = λ p is.
    let h = c.packet_in-packet.ensures.spelled p is in
    let digest = response_is p c.packet_in-packet.result.now c.args.request.now c.args.secret.now h in
    let own = authenticator_at p c.packet_in-packet.result.now h in
    let other : p.authenticator ≢ response_authenticator p c.args.request.now c.args.secret.now =
    λ e. other_texts c.response_digest.result c.sixteen_at.result c.if-ne.ensures (c.response_digest.ensures ∙ digest ∙ sym e ∙ sym own ∙ sym c.sixteen_at.ensures) in
    (λ _ signed. other signed.response, λ _. refl)

pub returns-then-has_right_messages-clause-right :
    goal.returns-then-has_right_messages-clause-right
returns-then-has_right_messages-clause-right c = λ p is.
    let h = c.packet_in-packet.ensures.spelled p is in
    let digest = response_is p c.packet_in-packet.result.now c.args.request.now c.args.secret.now h in
    let own = authenticator_at p c.packet_in-packet.result.now h in
    let same = same_texts c.response_digest.result c.sixteen_at.result c.if-ne.ensures in
    let signed : IsSigned p c.args.request.now c.args.secret.now = record {
      response = sym own ∙ sym c.sixteen_at.ensures ∙ sym same ∙ c.response_digest.ensures ∙ digest;
      messages = (c.if-has_right_messages.ensures p h).0 refl;
    } in
    (λ _. signed, λ _. refl)

pub returns-then-has_right_messages-clause-wrong :
    goal.returns-then-has_right_messages-clause-wrong
returns-then-has_right_messages-clause-wrong c = λ p is.
    let h = c.packet_in-packet.ensures.spelled p is in
    let digest = response_is p c.packet_in-packet.result.now c.args.request.now c.args.secret.now h in
    let own = authenticator_at p c.packet_in-packet.result.now h in
    let same = same_texts c.response_digest.result c.sixteen_at.result c.if-ne.ensures in
    let signed : IsSigned p c.args.request.now c.args.secret.now = record {
      response = sym own ∙ sym c.sixteen_at.ensures ∙ sym same ∙ c.response_digest.ensures ∙ digest;
      messages = (c.if-has_right_messages.ensures p h).0 refl;
    } in
    (λ e. absurd cc, λ unsigned. absurd (unsigned signed))
