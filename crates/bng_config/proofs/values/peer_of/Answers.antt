use Rattle.toml.specs.View.{view}
use Rattle.bng_schema.specs.declared.keys.Form.TheVariants.{PeerText}
use Rattle.bng_config.proofs.Absent.{missed, peer_absent}
use Rattle.bng_config.proofs.values.peer_of.Goals as goal

pub unreachable-requires : goal.unreachable-requires
unreachable-requires c =
    let document = view c.args.document.now in
    missed document c.args.key PeerText c.requires (peer_absent document c.args.key c.requires.sound c.in-None.ensures.none)
