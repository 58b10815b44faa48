use Rattle.toml.specs.View.{view}
use Rattle.bng_schema.proofs.Elsewhere.{no_circuit}
use Rattle.bng_schema.proofs.circuits.is_bad_circuit_at.Goals as goal

pub returns-in_default : goal.returns-in_default
returns-in_default c = (λ t. cc, λ h. absurd (no_circuit (view c.args.document.now) c.args.field c.args.place c.in_default.not-StaticSession c.in_default.not-StaticAddress c.in_default.not-StaticProfile h))
