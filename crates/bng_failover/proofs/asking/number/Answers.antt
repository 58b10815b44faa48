use Rattle.std.proofs.Common.{rules, ℕ, List, [], ◌∷◌, ◌≡◌, ◌++◌, take, drop, ap, ◌∙◌, arith}
use Rattle.bng_base.specs.Packet.{Packet as Bytes}
use Rattle.bng_radius_wire.specs.Grammar.{AreOctets, length_in}
use Rattle.bng_rad_client.proofs.Numbers.{renumbered, length_of_new}
use Rattle.bng_failover.proofs.asking.number.Goals as goal

pub returns-clause-reads : goal.returns-clause-reads
returns-clause-reads c = λ p is.
    let small : AreOctets c.args.request.now = λ i. let byte = c.type_inv.request i in search rules in
    let size : c.from-length.result ≡ length_in c.args.request.now = omega (arith, c.from-length.ensures, c.from_be_bytes.ensures) in
    let written : c.set.new.self.payload ≡ take (length_in c.args.request.now) c.args.request.now = ap (λ (b : Bytes). b.payload) c.set.ensures ∙ ap (λ (n : ℕ). take n c.args.request.now) size in
    let new : c.overwrite.new.self.payload ≡ take 1 (take (length_in c.args.request.now) c.args.request.now) ++ (c.args.id ∷ []) ++ drop 2 (take (length_in c.args.request.now) c.args.request.now) =
    c.overwrite.ensures.payload ∙ ap (λ (t : List ℕ). take 1 t ++ (c.args.id ∷ []) ++ drop 2 t) written in
    renumbered p c.args.request.now c.overwrite.new.self.payload c.args.id small is new

pub returns-clause-size : goal.returns-clause-size
returns-clause-size c =
    let small : AreOctets c.args.request.now = λ i. let byte = c.type_inv.request i in search rules in
    let size : c.from-length.result ≡ length_in c.args.request.now = omega (arith, c.from-length.ensures, c.from_be_bytes.ensures) in
    let written : c.set.new.self.payload ≡ take (length_in c.args.request.now) c.args.request.now = ap (λ (b : Bytes). b.payload) c.set.ensures ∙ ap (λ (n : ℕ). take n c.args.request.now) size in
    let new : c.overwrite.new.self.payload ≡ take 1 (take (length_in c.args.request.now) c.args.request.now) ++ (c.args.id ∷ []) ++ drop 2 (take (length_in c.args.request.now) c.args.request.now) =
    c.overwrite.ensures.payload ∙ ap (λ (t : List ℕ). take 1 t ++ (c.args.id ∷ []) ++ drop 2 t) written in
    length_of_new c.requires.0 c.args.request.now c.overwrite.new.self.payload c.args.id small c.requires.1 new
