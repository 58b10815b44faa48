use Rattle.toml.specs.View.{view}
use Rattle.bng_schema.proofs.Elsewhere.{no_room}
use Rattle.bng_schema.proofs.circuits.are_too_many.Goals as goal

pub returns-in_default : goal.returns-in_default
returns-in_default c = (λ t. cc, λ h. absurd (no_room (view c.args.document.now) c.args.table c.in_default.not-Static h))
