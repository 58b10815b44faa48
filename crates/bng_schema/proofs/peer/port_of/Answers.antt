use Rattle.std.proofs.Common.{rules, sym, ap, ◌∙◌, arith}
use Rattle.std.specs.Fmt.{decimal}
use Rattle.std.proofs.lemmas.Fmt.{decimal_injective}
use Rattle.std.proofs.lemmas.Result.{MatchResult-at_ok, MatchResult-at_err}
use Rattle.bng_schema.specs.Parts.{IsPlain}
use Rattle.bng_schema.proofs.Decimals.{decimal_plain, reads_plain}
use Rattle.bng_schema.proofs.peer.port_of.Goals as goal

pub returns-then-not-is_plain-clause-none : goal.returns-then-not-is_plain-clause-none
returns-then-not-is_plain-clause-none c n low small is =
    let no : IsPlain c.args.text.now → ⊥ = search (rules, c.if-not-is_plain.ensures) in
    no (rw is (decimal_plain n (omega arith)))

pub returns-in-Ok-eq0-clause-none : goal.returns-in-Ok-eq0-clause-none
returns-in-Ok-eq0-clause-none c n low small is =
    let plain : IsPlain c.args.text.now = search (rules, c.if-not-is_plain.ensures) in
    let got = reads_plain 16 c.args.text.now c.parse.result (omega arith) plain c.parse.ensures.value.0 in
    let read = MatchResult-at_ok _ _ _ c.in-Ok-eq0.is got in
    let same = decimal_injective n 0 (omega arith) (omega arith) (sym is ∙ read ∙ ap decimal c.in-Ok-eq0.field-0-test) in
    omega arith

pub returns-in-Ok-clause-found : goal.returns-in-Ok-clause-found
returns-in-Ok-clause-found c =
    let plain : IsPlain c.args.text.now = search (rules, c.if-not-is_plain.ensures) in
    let got = reads_plain 16 c.args.text.now c.parse.result (omega arith) plain c.parse.ensures.value.0 in
    (MatchResult-at_ok _ _ _ c.in-Ok.is got, omega (arith, c.in-Ok.port-test.1))

pub returns-in-Err-clause-none : goal.returns-in-Err-clause-none
returns-in-Err-clause-none c n low small is =
    let plain : IsPlain c.args.text.now = search (rules, c.if-not-is_plain.ensures) in
    let got = reads_plain 16 c.args.text.now c.parse.result (omega arith) plain c.parse.ensures.value.0 in
    MatchResult-at_err _ _ _ c.in-Err.is got n (omega arith) is
