use Rattle.std.proofs.Common.{◌<◌, length, sym, ◌∙◌, arith}
use Rattle.bng_steps.proofs.SameKeys.{same_over, same_tenure_count, tenures_rise}
use Rattle.bng_steps.proofs.Tallying.{covered_has}
use Rattle.bng_steps.proofs.terms.Terms.settle.Goals as goal

pub invariant_of-self : goal.invariant_of-self
invariant_of-self c =
    let was = c.self.invariant in
    let rows = c.self.inside.rows.items in
    let now = c.carry.new.rows.items in (
      tenures_rise rows now c.carry.ensures.tenures was.0,
      was.1,
      was.2 ∙ sym (same_over rows now c.carry.ensures.tenures),
      omega (arith, was.3, same_tenure_count rows now c.carry.ensures.tenures, c.carry.ensures.capacity),
      was.4,
    )

pub take_off-requires : goal.take_off-requires
take_off-requires c =
    let inside : c.in-Some.charge.profile < length c.args.profiles.now.books = omega (arith, c.if-charge-count.true, c.count.ensures) in
    record { profile = inside; there = covered_has c.args.profiles.now.books c.args.out.now c.in-Some.charge c.in-Some.is c.if-out.false inside c.requires.covered }
