use Rattle.toml.specs.View.{view}
use Rattle.bng_schema.proofs.Elsewhere.{no_rate}
use Rattle.bng_schema.proofs.rates.is_partial_at.Goals as goal

pub returns-in_default : goal.returns-in_default
returns-in_default c = (λ t. cc, λ h. absurd (no_rate (view c.args.document.now) c.args.field c.args.place c.in_default.not-ProfileUpCir c.in_default.not-ProfileUpCbs c.in_default.not-ProfileUpEbs c.in_default.not-ProfileDownCir c.in_default.not-ProfileDownCbs c.in_default.not-ProfileDownEbs h))
