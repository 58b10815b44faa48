use Rattle.std.proofs.Common.{◌≡◌, ◌∷◌, ◌++◌, ap, ◌∙◌, arith, length}
use Rattle.bng_base.specs.Packet.{Packet as Bytes}
use Rattle.bng_access.proofs.Requests.{reads}
use Rattle.bng_access.proofs.request.write.Goals as goal

pub returns-clause-request : goal.returns-clause-request
returns-clause-request c =
    let a = c.args in
    let header : c.put_back.new.self.payload ≡ 1 ∷ 0 ∷ 0 ∷ 0 ∷ a.authenticator.now =
    c.put_back.ensures.payload ∙ ap (λ (f : Bytes). f.payload ++ a.authenticator.now) c.set.ensures in
    let claims = rw header at c.put_claim.ensures.goes_on in
    let last = rw (c.as_slice.ensures.value, c.port_id.ensures) at c.put.ensures.goes_on in
    reads a.rules.now a.secret.now a.ask.now a.authenticator.now c.put_claim.new.into.payload c.put_place.new.into.payload c.put_unsigned.new.into.payload c.put.new.into.payload
    claims c.put_place.ensures.goes_on c.put_unsigned.ensures.payload last c.put_length.new.into.payload (omega arith) (omega (arith, ap length header)) c.put_length.ensures.payload
