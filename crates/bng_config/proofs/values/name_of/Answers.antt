use Rattle.toml.specs.View.{view}
use Rattle.bng_schema.specs.declared.keys.Form.TheVariants.{PrintableText}
use Rattle.bng_config.proofs.Absent.{missed, name_absent}
use Rattle.bng_config.proofs.values.name_of.Goals as goal

pub unreachable-requires : goal.unreachable-requires
unreachable-requires c =
    let document = view c.args.document.now in
    missed document c.args.key PrintableText c.requires (name_absent document c.args.key c.requires.sound c.in-None.ensures.none)
