use Rattle.toml.specs.View.{view}
use Rattle.bng_schema.proofs.Tests.{any_text}
use Rattle.bng_schema.proofs.texts.has_bad_text.Goals as goal

pub returns-in_default : goal.returns-in_default
returns-in_default c =
    (λ t. cc, λ h. absurd (any_text c.args.form (view c.args.value.now) c.in_default.not-PrintableText c.in_default.not-LabelText c.in_default.not-OctetText c.in_default.not-ServiceList h))
