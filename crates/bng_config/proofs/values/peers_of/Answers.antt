use Rattle.toml.specs.View.{view}
use Rattle.bng_schema.specs.declared.keys.Form.TheVariants.{AddressList}
use Rattle.bng_config.proofs.Absent.{missed, addresses_absent}
use Rattle.bng_config.proofs.values.peers_of.Goals as goal

pub unreachable-requires : goal.unreachable-requires
unreachable-requires c =
    let document = view c.args.document.now in
    missed document c.args.key (AddressList 1 16) c.requires (addresses_absent document c.args.key 1 16 c.requires.sound c.in-None.ensures.none)
