use Rattle.std.proofs.Common.{refl, arith}
use Rattle.bng_spell.proofs.NumberLines.{no_numbers_line, numbers_found}
use Rattle.bng_spell.proofs.round.numbers_line.Goals as goal

pub returns-in_default-read-clause-none : goal.returns-in_default-read-clause-none
returns-in_default-read-clause-none c =
    no_numbers_line c.args.whole.now c.args.at c.in_ok-numbers.at c.in_ok-numbers.numbers.items c.in_default.ensures.none c.in_ok-numbers.ensures
    (λ n rest f e. c.in_default-read.ensures.none (record { 0 = record { 0 = n } }) rest ((omega (arith, f), omega (arith, f)), refl) e)

pub returns-clause-found : goal.returns-clause-found
returns-clause-found c =
    let found = c.in-Some-read.ensures.found in
    numbers_found c.args.whole.now c.args.at c.in_ok-numbers.at c.in-Some-read.next c.in_ok-numbers.numbers.items c.push.new.self.items c.in-Some-read.last.0.0 c.in_ok-push.ensures.items found.0.0.0
    c.in_ok-numbers.ensures found.1
