use Rattle.std.proofs.Common.{◌≤◌, ◌*◌, ℕ, List, length, ap, sym, ◌∙◌, arith}
use Rattle.std.specs.List.{between}
use Rattle.std.proofs.lemmas.Bool.{false≢true}
use Rattle.bng_spell.proofs.Digits.{digits_length, digits_part, digits_more, no_digits}
use Rattle.bng_spell.proofs.octets.are_digits.Goals as goal

pub returns-then-field-octets : goal.returns-then-field-octets
returns-then-field-octets c = (λ t. absurd (false≢true t), λ e. absurd (c.if-field-octets.true (ap length e ∙ digits_length c.args.octets.now)))

pub loop-at-init : goal.loop-at-init
loop-at-init c = (omega arith, omega (arith, c.if-field-octets.false), no_digits)

pub returns-then-not-are_few_digits : goal.returns-then-not-are_few_digits
returns-then-not-are_few_digits c =
    let at = c.loop-at.at in
    let next = c.min-next.result in
    let within : next ≤ length c.args.octets.now = omega (arith, c.min-next.ensures) in
    let later : at ≤ next = omega (arith, c.min-next.ensures, c.loop-at.invariant.0, c.loop-at-test.true) in (
      λ t. absurd (false≢true t),
      λ e.
          absurd (false≢true (sym c.if-not-are_few_digits.true ∙ c.are_few_digits.ensures.1 (ap (λ (t : List ℕ). between (2 * at) (2 * next) t) e ∙ digits_part c.args.octets.now at next later within))),
    )

pub loop-at-preserved : goal.loop-at-preserved
loop-at-preserved c =
    let at = c.loop-at.at in
    let next = c.min-next.result in
    let within : next ≤ length c.args.octets.now = omega (arith, c.min-next.ensures) in
    let later : at ≤ next = omega (arith, c.min-next.ensures, c.loop-at.invariant.0, c.loop-at-test.true) in
    (within, c.loop-at.invariant.1, digits_more c.args.field.now c.args.octets.now at next later c.loop-at.invariant.2 (c.are_few_digits.ensures.0 c.if-not-are_few_digits.false))
