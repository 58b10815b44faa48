use Rattle.toml.specs.View.{view}
use Rattle.bng_schema.proofs.Elsewhere.{no_range}
use Rattle.bng_schema.proofs.ranges.breaks_range_at.Goals as goal

pub returns-in_default : goal.returns-in_default
returns-in_default c = (λ t. cc, λ h. absurd (no_range (view c.args.document.now) c.args.field c.args.place c.in_default.not-PoolLast h))
