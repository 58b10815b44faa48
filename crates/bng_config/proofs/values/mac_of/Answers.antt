use Rattle.toml.specs.View.{view}
use Rattle.bng_schema.specs.declared.keys.Form.TheVariants.{MacText}
use Rattle.bng_config.proofs.Absent.{missed, mac_absent}
use Rattle.bng_config.proofs.values.mac_of.Goals as goal

pub unreachable-requires : goal.unreachable-requires
unreachable-requires c =
    let document = view c.args.document.now in
    missed document c.args.key MacText c.requires (mac_absent document c.args.key c.requires.sound c.in-None.ensures.none)
