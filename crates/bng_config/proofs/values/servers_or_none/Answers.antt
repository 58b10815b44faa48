use Rattle.std.proofs.Common.{inl, rules}
use Rattle.toml.specs.View.{view}
use Rattle.bng_config.proofs.Absent.{addresses_absent}
use Rattle.bng_config.proofs.values.servers_or_none.Goals as goal

pub returns-in-None : goal.returns-in-None
returns-in-None c = inl (addresses_absent (view c.args.document.now) c.args.key 0 2 c.requires c.in-None.ensures.none, search rules)
