use Rattle.toml.specs.View.{view}
use Rattle.bng_config.proofs.Absent.{number_absent}
use Rattle.bng_config.proofs.values.number_or_none.Goals as goal

pub returns-in-None-clause-absent : goal.returns-in-None-clause-absent
returns-in-None-clause-absent c = number_absent (view c.args.document.now) c.args.key c.args.least c.args.most c.requires c.in-None.ensures.none
