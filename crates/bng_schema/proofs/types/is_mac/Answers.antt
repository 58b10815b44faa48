use Rattle.toml.specs.View.{view}
use Rattle.bng_schema.specs.Forms.{IsMac}
use Rattle.bng_schema.proofs.Tests.{read_some}
use Rattle.bng_schema.proofs.types.is_mac.Goals as goal

pub returns : goal.returns
returns c = read_some (IsMac (view c.args.value.now)) c.mac_in.result c.is_some.result c.is_some.ensures c.mac_in.ensures.found c.mac_in.ensures.none
