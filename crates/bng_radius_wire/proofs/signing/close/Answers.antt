use Rattle.std.proofs.Common.{ℕ, List, ◌≡◌, ◌+◌, ◌++◌, take, drop, length, sym, ap, subst, ◌∙◌}
use Rattle.md5.proofs.StandardFacts.{length-md5}
use Rattle.bng_radius_wire.specs.Grammar.{AreOctets, IsRadius, IsSpelled}
use Rattle.bng_radius_wire.specs.Digests.{response_authenticator}
use Rattle.bng_radius_wire.specs.Signing.{IsRewritten}
use Rattle.bng_radius_wire.proofs.Digested.{response_is}
use Rattle.bng_radius_wire.proofs.Signs.{with_other}
use Rattle.bng_radius_wire.proofs.signing.close.Goals as goal

pub returns-clause-closed : goal.returns-clause-closed
returns-clause-closed c = λ p is.
    let old = c.args.frame.now.payload in
    let small : AreOctets old = subst AreOctets c.payload.ensures.octets c.packet_in.ensures.octets in
    let packet = c.packet_in.result.now in
    let h : IsSpelled p packet = c.packet_in.ensures.spelled p (subst (IsRadius p) (sym c.payload.ensures.octets) is) in
    let digest : c.response_digest-digest.result ≡ response_authenticator p c.args.request.now c.args.secret.now = c.response_digest-digest.ensures ∙ response_is p packet c.args.request.now c.args.secret.now h in
    let long : length c.response_digest-digest.result ≡ 16 = ap length digest ∙ length-md5 _ in
    let new : c.overwrite.new.self.payload ≡ take 4 old ++ c.response_digest-digest.result ++ drop 20 old =
    c.overwrite.ensures.payload ∙ ap (λ (n : ℕ). take 4 old ++ c.response_digest-digest.result ++ drop (4 + n) old) long in
    subst (λ (d : List ℕ). IsRewritten (record p { authenticator = d }) old c.overwrite.new.self.payload) digest
    (subst (IsRewritten (record p { authenticator = c.response_digest-digest.result }) old) (sym new) (with_other p old small is c.response_digest-digest.result long))
