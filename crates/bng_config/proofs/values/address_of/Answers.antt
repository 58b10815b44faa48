use Rattle.toml.specs.View.{view}
use Rattle.bng_schema.specs.declared.keys.Form.TheVariants.{AddressText}
use Rattle.bng_config.proofs.Absent.{missed, address_absent}
use Rattle.bng_config.proofs.values.address_of.Goals as goal

pub unreachable-requires : goal.unreachable-requires
unreachable-requires c =
    let document = view c.args.document.now in
    missed document c.args.key AddressText c.requires (address_absent document c.args.key c.requires.sound c.in-None.ensures.none)
