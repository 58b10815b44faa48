use Rattle.toml.specs.View.{view}
use Rattle.bng_schema.proofs.Tests.{integer_type}
use Rattle.bng_schema.proofs.types.is_integer.Goals as goal

pub returns : goal.returns
returns c = integer_type (view c.args.value.now) c.is_integer.result c.is_integer.ensures
