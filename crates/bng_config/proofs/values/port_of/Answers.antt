use Rattle.toml.specs.View.{view}
use Rattle.bng_schema.specs.declared.keys.Form.TheVariants.{PortNumber}
use Rattle.bng_config.proofs.Absent.{missed, port_absent}
use Rattle.bng_config.proofs.values.port_of.Goals as goal

pub unreachable-requires : goal.unreachable-requires
unreachable-requires c =
    let document = view c.args.document.now in
    missed document c.args.key PortNumber c.requires.there (port_absent document c.args.key c.entries_of-ports.result c.entries_of-ports.ensures c.requires.there.sound c.in-None.ensures.none)
