use Rattle.std.proofs.Common.{inl, rules}
use Rattle.toml.specs.View.{view}
use Rattle.bng_config.proofs.Absent.{kinds_absent}
use Rattle.bng_config.proofs.values.kinds_or_both.Goals as goal

pub returns-in-None : goal.returns-in-None
returns-in-None c = inl (kinds_absent (view c.args.document.now) c.args.key c.requires c.in-None.ensures.none, search rules)
