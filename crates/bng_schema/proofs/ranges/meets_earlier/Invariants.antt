use Rattle.std.proofs.Common.{ℕ, ◌<◌}
use Rattle.toml.specs.View.{view}
use Rattle.bng_base.specs.declared.book.Range.{Range}
use Rattle.bng_schema.specs.Ranges.{IsRangeAt, Meets}
use Rattle.bng_schema.proofs.ranges.meets_earlier.Given as goal

abbrev pub invariant-loop-earlier : goal.invariant-loop-earlier
invariant-loop-earlier l = (i : ℕ) → i < l.earlier → ¬ ((r : Range) × IsRangeAt (view l.document) i r × Meets r l.range)
