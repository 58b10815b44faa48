use Rattle.std.proofs.Common.{rules, arith}
use Rattle.bng_schema.specs.Parts.{IsPlain}
use Rattle.bng_schema.proofs.Decimals.{decimal_plain, reads_octet}
use Rattle.bng_schema.proofs.peer.octet_of.Goals as goal

pub returns-then-is_plain-clause-found : goal.returns-then-is_plain-clause-found
returns-then-is_plain-clause-found c =
    let plain : IsPlain c.args.text.now = search (rules, c.is_plain.ensures) in
    (reads_octet c.args.text.now c.parse.result c.ok.result c.ok.ensures.value plain c.parse.ensures.value.0).0

pub returns-then-is_plain-clause-none : goal.returns-then-is_plain-clause-none
returns-then-is_plain-clause-none c =
    let plain : IsPlain c.args.text.now = search (rules, c.is_plain.ensures) in
    (reads_octet c.args.text.now c.parse.result c.ok.result c.ok.ensures.value plain c.parse.ensures.value.0).1

pub returns-else-is_plain-clause-none : goal.returns-else-is_plain-clause-none
returns-else-is_plain-clause-none c n small is =
    let no : IsPlain c.args.text.now → ⊥ = search (rules, c.if-is_plain.ensures) in
    no (rw is (decimal_plain n (omega arith)))
