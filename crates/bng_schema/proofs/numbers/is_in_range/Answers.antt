use Rattle.std.proofs.Common.{refl}
use Rattle.toml.specs.View.{view}
use Rattle.bng_schema.proofs.Tests.{any_number}
use Rattle.bng_schema.proofs.numbers.is_in_range.Goals as goal

pub returns-in_default : goal.returns-in_default
returns-in_default c =
    (λ t. any_number (view c.args.document.now) c.args.form c.args.number c.in_default.not-Number c.in_default.not-PortNumber c.in_default.not-SessionNumber, λ h. refl)
