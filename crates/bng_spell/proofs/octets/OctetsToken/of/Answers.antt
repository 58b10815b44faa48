use Rattle.std.proofs.Common.{◌≤◌, ◌++◌, take, ap, sym, ◌∙◌, arith}
use Rattle.bng_base.specs.Packet.{Packet}
use Rattle.bng_spell.proofs.Repeats.{take_parts}
use Rattle.bng_spell.proofs.Digits.{octets_found}
use Rattle.bng_spell.proofs.octets.OctetsToken.of.Goals as goal

pub returns-clause-found : goal.returns-clause-found
returns-clause-found c =
    let octets = c.octets_in.new.room in
    let n = c.in_ok-length.length in
    let front = c.min-front.result in
    let found = c.in_ok-length.ensures.found in
    let most : n ≤ 4160 = omega (arith, found.0, c.in_ok-length.ensures.size, c.octets_in.auto.room) in
    let few : front ≤ n = omega (arith, c.min-front.ensures) in
    octets_found c.args.field.now octets c.of.result n most found.1 found.2
    (c.of.ensures ∙ c.put_front.ensures.payload ∙ ap (λ (f : Packet). take front octets ++ f.payload) c.set.ensures ∙ sym (take_parts front n octets few))
