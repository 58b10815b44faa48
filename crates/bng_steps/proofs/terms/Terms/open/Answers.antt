use Rattle.std.proofs.Common.{List, arith, ap, subst, sym, ◌∙◌, length, map}
use Rattle.bng_engine.specs.Terms.{keys}
use Rattle.bng_engine.specs.Views.{new_row}
use Rattle.bng_steps.specs.Opening.{in_order}
use Rattle.bng_steps.specs.Protocol.{term_in}
use Rattle.bng_steps.specs.TermRows.{AreRising}
use Rattle.bng_steps.specs.Tenures.{Tenure}
use Rattle.bng_steps.proofs.InCircuits.{circuits_live, circuits_rise}
use Rattle.bng_steps.proofs.terms.Terms.open.Goals as goal

pub invariant_of-result : goal.invariant_of-result
invariant_of-result c =
    let rows = c.in_ok-rows_of.field-0.items in
    let circuits = in_order c.args.number c.args.circuits.now in
    let none = c.new.ensures.items in (
      circuits_rise c.args.now 0 circuits rows c.in_ok-rows_of.ensures.tenures,
      subst AreRising (sym none) tt,
      circuits_live c.args.now 0 circuits rows c.in_ok-rows_of.ensures.tenures,
      omega (arith, c.in_ok-rows_of.field-0.ok),
      omega (arith, ap length none),
    )

pub returns-clause-rows : goal.returns-clause-rows
returns-clause-rows c = c.in_ok-rows_of.ensures.rows ∙ ap (λ (ts : List Tenure). map new_row (keys (map term_in ts))) c.in_ok-rows_of.ensures.tenures
