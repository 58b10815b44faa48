use Rattle.std.proofs.Common.{rules, ℕ, ◌≡◌, take, subst, arith}
use Rattle.bng_radius_wire.specs.Grammar.{IsSpelled, length_in}
use Rattle.bng_radius_wire.proofs.Spelled.{spelled_packet}
use Rattle.bng_radius_wire.proofs.places.packet_in.Goals as goal

pub returns-clause-spelled : goal.returns-clause-spelled
returns-clause-spelled c = λ p h.
    let size : length_in c.args.bytes.now ≡ c.from-length.result = omega (arith, c.from-length.ensures, c.from_be_bytes.ensures) in
    subst (λ (n : ℕ). IsSpelled p (take n c.args.bytes.now)) size (spelled_packet p c.args.bytes.now (λ i. let byte = c.type_inv.bytes i in search rules) h)
