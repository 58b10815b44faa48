use Rattle.std.proofs.Common.{◌<◌, ◌^◌, length, sym, ◌∙◌, rules, arith}
use Rattle.std.proofs.lemmas.Slice.{between_to_end}
use Rattle.bng_spell.proofs.Decimals.{port_other}
use Rattle.bng_spell.proofs.numbers.port_of.Goals as goal

pub returns-else-number-lt256-clause-none : goal.returns-else-number-lt256-clause-none
returns-else-number-lt256-clause-none c = λ n f e.
    let small : c.in_ok-number.number < 2 ^ 64 = search rules in
    port_other c.args.field.now c.in_ok-number.number n small f c.if-number-lt256.false
    (sym (between_to_end c.args.field.now 6 (length c.args.field.now) (omega arith)) ∙ c.in_ok-number.ensures.found) e
