use Rattle.toml.specs.View.{view}
use Rattle.bng_schema.specs.Forms.{IsPeer}
use Rattle.bng_schema.proofs.Tests.{read_some}
use Rattle.bng_schema.proofs.types.is_peer.Goals as goal

pub returns : goal.returns
returns c = read_some (IsPeer (view c.args.value.now)) c.peer_in.result c.is_some.result c.is_some.ensures c.peer_in.ensures.found c.peer_in.ensures.none
