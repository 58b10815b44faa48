use Rattle.toml.specs.View.{view}
use Rattle.bng_schema.specs.declared.keys.Form.TheVariants.{OctetText}
use Rattle.bng_config.proofs.Absent.{missed, octets_absent}
use Rattle.bng_config.proofs.values.secret_of.Goals as goal

pub unreachable-requires : goal.unreachable-requires
unreachable-requires c =
    let document = view c.args.document.now in
    missed document c.args.key (OctetText 64) c.requires (octets_absent document c.args.key 64 c.requires.sound c.in-None.ensures.none)
