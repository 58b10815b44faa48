use Rattle.std.proofs.Common.{◌<◌, ◌^◌, sym, ◌∙◌, rules, arith}
use Rattle.std.proofs.lemmas.Fmt.{decimal_injective}
use Rattle.bng_spell.proofs.numbers.NumberToken.of.Goals as goal

pub returns-else-number-clause-none : goal.returns-else-number-clause-none
returns-else-number-clause-none g c = λ v f e.
    let small : c.in_ok-number.number < 2 ^ 64 = search rules in
    let same = decimal_injective c.in_ok-number.number v.0 small f.1 (sym c.in_ok-number.ensures.found ∙ e) in
    let most = f.0 in
    omega (arith, same, most, c.if-number.false)
