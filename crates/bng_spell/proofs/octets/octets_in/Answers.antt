use Rattle.std.proofs.Common.{◌≡◌, ℕ, sym, ◌∙◌, length-drop, rules, arith}
use Rattle.std.proofs.lemmas.List.{length-take}
use Rattle.std.specs.Prelude.{codes}
use Rattle.std.proofs.lemmas.Bool.{false≢true}
use Rattle.bng_spell.proofs.Digits.{octets_are_digits}
use Rattle.bng_spell.proofs.octets.octets_in.Goals as goal

pub returns-then-length-eq0-clause-none : goal.returns-then-length-eq0-clause-none
returns-then-length-eq0-clause-none c = λ bytes p most e.
    let differ : c.args.field.now ≡ codes "-" → ⊥ = search (rules, c.eq.ensures, c.if-eq.false) in
    let digits = octets_are_digits c.args.field.now bytes differ e in
    let len = digits.1 in
    let some = digits.2 in
    omega (arith, len, some, c.if-length-eq0.true)

pub returns-then-length-room-clause-none : goal.returns-then-length-room-clause-none
returns-then-length-room-clause-none c = λ bytes p most e.
    let differ : c.args.field.now ≡ codes "-" → ⊥ = search (rules, c.eq.ensures, c.if-eq.false) in
    let digits = octets_are_digits c.args.field.now bytes differ e in
    let len = digits.1 in
    omega (arith, len, most, c.if-length-room.true)

pub returns-else-read_digits-clause-none : goal.returns-else-read_digits-clause-none
returns-else-read_digits-clause-none c = λ bytes p most e.
    let differ : c.args.field.now ≡ codes "-" → ⊥ = search (rules, c.eq.ensures, c.if-eq.false) in
    let digits = octets_are_digits c.args.field.now bytes differ e in
    let len = digits.1 in
    false≢true (sym c.if-read_digits.false ∙ c.read_digits.ensures.all bytes p (omega (arith, len, most, length-take {A = ℕ}, length-drop {A = ℕ})) digits.0)
