use Rattle.std.proofs.Common.{rules, ◌≡◌, Some, List, ℕ, refl, sym, ap, subst, ◌∙◌}
use Rattle.std.specs.Prelude.{slice_range}
use Rattle.bng_radius_wire.specs.Grammar.{Packet, whole}
use Rattle.bng_radius_wire.specs.Digests.{IsSigned}
use Rattle.bng_rad_client.specs.declared.pending.Pending.{Pending}
use Rattle.bng_rad_client.specs.Replies.{IsReplyOf, authenticator_of}
use Rattle.bng_failover.proofs.replies.reply.Goals as goal

pub returns-in-WrongDigest-clause-answer : goal.returns-in-WrongDigest-clause-answer
returns-in-WrongDigest-clause-answer c =
    let p : Packet = whole c.in-Ok.packet in
    let r : Pending = c.in-Some.request.now in
    let reply : IsReplyOf c.args.lane p c.args.bytes.now = search rules in
    let same : c.authenticator_of-authenticator.result ≡ authenticator_of r = c.authenticator_of-authenticator.ensures ∙ ap (λ (o : List ℕ). slice_range o 4 20) c.as_slice.ensures.octets in
    (refl, (p, r, record { reply = reply; pending = sym c.in-Some.ensures }, λ signed. (c.in-WrongDigest.ensures.wrong p c.in-Ok.ensures.found).0 refl (subst (λ (a : List ℕ). IsSigned p a c.args.secret.now) (sym same) signed)))

pub returns-in-Some-take-clause-answer : goal.returns-in-Some-take-clause-answer
returns-in-Some-take-clause-answer c =
    let p : Packet = whole c.in-Ok.packet in
    let r : Pending = c.in-Some.request.now in
    let reply : IsReplyOf c.args.lane p c.args.bytes.now = search rules in
    let same : c.authenticator_of-authenticator.result ≡ authenticator_of r = c.authenticator_of-authenticator.ensures ∙ ap (λ (o : List ℕ). slice_range o 4 20) c.as_slice.ensures.octets in
    let taken : Some c.in-Some-take.request ≡ Some r = c.in-Some-take.ensures.request ∙ sym c.in-Some.ensures in
    let one : c.in-Some-take.request ≡ r = cc in
    (refl, (p, r, record { reply = reply; pending = sym c.in-Some.ensures }, subst (λ (a : List ℕ). IsSigned p a c.args.secret.now) same ((c.in-Right.ensures.right p c.in-Ok.ensures.found).0 refl), ap (λ (x : Pending). x.owner) one))
