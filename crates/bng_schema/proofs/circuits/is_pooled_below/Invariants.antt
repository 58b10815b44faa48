use Rattle.std.proofs.Common.{ℕ, ◌<◌}
use Rattle.toml.specs.View.{view}
use Rattle.bng_base.specs.declared.book.Range.{Range}
use Rattle.bng_base.specs.Ranges.{InRange}
use Rattle.bng_schema.specs.Ranges.{IsRangeAt}
use Rattle.bng_schema.proofs.circuits.is_pooled_below.Given as goal

abbrev pub invariant-loop-place : goal.invariant-loop-place
invariant-loop-place l = (i : ℕ) → i < l.place → ¬ ((r : Range) × IsRangeAt (view l.document) i r × InRange r l.address.0)
