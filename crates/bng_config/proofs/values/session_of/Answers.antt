use Rattle.toml.specs.View.{view}
use Rattle.bng_schema.specs.declared.keys.Form.TheVariants.{SessionNumber}
use Rattle.bng_config.proofs.Absent.{missed, session_absent}
use Rattle.bng_config.proofs.values.session_of.Goals as goal

pub unreachable-requires : goal.unreachable-requires
unreachable-requires c =
    let document = view c.args.document.now in
    missed document c.args.key SessionNumber c.requires.there (session_absent document c.args.key c.args.shards c.requires.shards c.requires.there.sound c.in-None.ensures.none)
