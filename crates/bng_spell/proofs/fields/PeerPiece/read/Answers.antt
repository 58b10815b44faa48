use Rattle.std.proofs.Common.{refl, arith}
use Rattle.bng_spell.proofs.FieldReading.{peer_parted}
use Rattle.bng_spell.proofs.fields.PeerPiece.read.Goals as goal

pub returns-in_err-ip-clause-none : goal.returns-in_err-ip-clause-none
returns-in_err-ip-clause-none c = rw c.from_residual.ensures (λ p rest f e.
    let port = f.port in
    c.in_err-ip.ensures.none (record { 0 = p.ip }, record { 0 = record { 0 = p.port } }) rest ((f.ip, refl), ((omega (arith, port), omega (arith, port)), refl)) (peer_parted p c.args.whole.now rest c.args.at e))
