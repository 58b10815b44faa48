use Rattle.toml.specs.View.{view}
use Rattle.bng_schema.proofs.Totals.{IsTotal}
use Rattle.bng_schema.proofs.ranges.are_too_many.Given as goal

abbrev pub invariant-loop-earlier : goal.invariant-loop-earlier
invariant-loop-earlier l = IsTotal (view l.document) l.earlier l.fn.range l.count
