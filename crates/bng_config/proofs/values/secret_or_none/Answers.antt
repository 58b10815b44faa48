use Rattle.toml.specs.View.{view}
use Rattle.bng_config.proofs.Absent.{octets_absent}
use Rattle.bng_config.proofs.values.secret_or_none.Goals as goal

pub returns-in-None-clause-absent : goal.returns-in-None-clause-absent
returns-in-None-clause-absent c = octets_absent (view c.args.document.now) c.args.key 64 c.requires c.in-None.ensures.none
