use Rattle.std.proofs.Common.{Bool, true, ℕ, List, ◌≡◌, sym, ap, subst, ◌∙◌}
use Rattle.std.specs.Prelude.{if◌then◌else◌, slice_index}
use Rattle.bng_radius_wire.specs.Grammar.{IsRadius}
use Rattle.bng_radius_wire.specs.Digests.{zeros, filled, has_digest, signed_reply}
use Rattle.bng_radius_wire.proofs.signing.sign_request.Goals as goal

pub returns-then-has_digest-clause-signed : goal.returns-then-has_digest-clause-signed
returns-then-has_digest-clause-signed c = λ p is.
    let digest : has_digest p.code ≡ true =
    ap has_digest (is.code ∙ ap (λ (octets : List ℕ). slice_index octets 0) (sym c.payload.ensures.octets)) ∙ sym c.if-has_digest.ensures in
    subst (λ (b : Bool). IsRadius (if b then signed_reply p zeros c.args.secret.now else filled p p.authenticator c.args.secret.now) c.sign_reply.new.frame.payload) (sym digest)
    (c.sign_reply.ensures.signed p is)
