use Rattle.toml.specs.View.{view}
use Rattle.bng_schema.proofs.Elsewhere.{no_repeat}
use Rattle.bng_schema.proofs.repeats.stands_earlier.Goals as goal

pub returns-in_default : goal.returns-in_default
returns-in_default c = (λ t. cc, λ h. absurd (no_repeat (view c.args.document.now) c.args.field c.args.place c.args.text.now c.in_default.not-ControlLocal c.in_default.not-AccessLocal c.in_default.not-RadiusAuthLocal c.in_default.not-RadiusAcctLocal c.in_default.not-TunnelLocal c.in_default.not-LacIp c.in_default.not-CoaLocal c.in_default.not-PoolName c.in_default.not-ProfileName h))
