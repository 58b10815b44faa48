use Rattle.std.proofs.Common.{ℕ, ◌<◌}
use Rattle.toml.specs.View.{view}
use Rattle.bng_schema.specs.declared.keys.Key.TheVariants.{Of}
use Rattle.bng_schema.specs.Repeats.{HasText}
use Rattle.bng_schema.proofs.repeats.stands_below.Given as goal

abbrev pub invariant-loop-place : goal.invariant-loop-place
invariant-loop-place l = (i : ℕ) → i < l.place → ¬ HasText (view l.document) (Of l.field i) l.text
