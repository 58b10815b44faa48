use Rattle.std.proofs.Common.{inl, refl}
use Rattle.toml.specs.View.{view}
use Rattle.bng_config.proofs.Absent.{number_absent}
use Rattle.bng_config.proofs.values.number_or.Goals as goal

pub returns-in-None : goal.returns-in-None
returns-in-None c = inl (number_absent (view c.args.document.now) c.args.key c.args.least c.args.most c.requires c.in-None.ensures.none, refl)
