use Rattle.toml.specs.View.{view}
use Rattle.bng_schema.proofs.Elsewhere.{no_tunnel}
use Rattle.bng_schema.proofs.lacs.is_untunnelled.Goals as goal

pub returns-in_default : goal.returns-in_default
returns-in_default c = (λ t. cc, λ h. absurd (no_tunnel (view c.args.document.now) c.args.table c.in_default.not-Lac h))
