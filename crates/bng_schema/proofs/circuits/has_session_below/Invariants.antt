use Rattle.std.proofs.Common.{ℕ, ◌<◌}
use Rattle.toml.specs.View.{view}
use Rattle.bng_schema.specs.declared.keys.Field.TheVariants.{StaticSession}
use Rattle.bng_schema.specs.Circuits.{HasNumber}
use Rattle.bng_schema.proofs.circuits.has_session_below.Given as goal

abbrev pub invariant-loop-place : goal.invariant-loop-place
invariant-loop-place l = (i : ℕ) → i < l.place → ¬ HasNumber (view l.document) StaticSession i l.number
