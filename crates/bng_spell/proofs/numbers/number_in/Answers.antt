use Rattle.std.proofs.Common.{rules}
use Rattle.bng_spell.specs.Pieces.{IsUnsigned}
use Rattle.bng_spell.proofs.Decimals.{decimal_unsigned, reads_number}
use Rattle.bng_spell.proofs.numbers.number_in.Goals as goal

pub returns-then-is_unsigned-clause-found : goal.returns-then-is_unsigned-clause-found
returns-then-is_unsigned-clause-found c =
    let plain : IsUnsigned c.args.text.now = search (rules, c.is_unsigned.ensures) in
    (reads_number c.args.text.now c.parse.result c.ok.result c.ok.ensures.value plain c.parse.ensures.value.0).0

pub returns-then-is_unsigned-clause-none : goal.returns-then-is_unsigned-clause-none
returns-then-is_unsigned-clause-none c =
    let plain : IsUnsigned c.args.text.now = search (rules, c.is_unsigned.ensures) in
    (reads_number c.args.text.now c.parse.result c.ok.result c.ok.ensures.value plain c.parse.ensures.value.0).1

pub returns-else-is_unsigned-clause-none : goal.returns-else-is_unsigned-clause-none
returns-else-is_unsigned-clause-none c n small is =
    let no : IsUnsigned c.args.text.now → ⊥ = search (rules, c.if-is_unsigned.ensures) in
    no (rw is (decimal_unsigned n small))
