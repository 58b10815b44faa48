use Rattle.toml.specs.View.{view}
use Rattle.bng_schema.proofs.Tests.{text_type}
use Rattle.bng_schema.proofs.types.is_text.Goals as goal

pub returns : goal.returns
returns c = text_type (view c.args.value.now) c.is_str.result c.is_str.ensures
