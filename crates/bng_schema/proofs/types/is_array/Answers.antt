use Rattle.toml.specs.View.{view}
use Rattle.bng_schema.proofs.Tests.{array_type}
use Rattle.bng_schema.proofs.types.is_array.Goals as goal

pub returns : goal.returns
returns c = array_type (view c.args.value.now) c.is_array.result c.is_array.ensures
