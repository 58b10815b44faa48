use Rattle.std.proofs.Common.{refl}
use Rattle.toml.specs.View.{view}
use Rattle.bng_schema.specs.declared.keys.Field.TheVariants.{CoreLocal, CorePeer, ControlLocal}
use Rattle.bng_schema.specs.declared.keys.Form.TheVariants.{PeerText}
use Rattle.bng_config.proofs.Held.{there_as, core_there, control_there}
use Rattle.bng_config.proofs.ends.ends_of.Goals as goal

pub peer_of-core_local-requires : goal.peer_of-core_local-requires
peer_of-core_local-requires c =
    let document = view c.args.document.now in
    there_as document c.requires CoreLocal 0 PeerText (core_there document c.requires) refl refl

pub peer_of-core_peer-requires : goal.peer_of-core_peer-requires
peer_of-core_peer-requires c =
    let document = view c.args.document.now in
    there_as document c.requires CorePeer 0 PeerText (core_there document c.requires) refl refl

pub peer_of-control_local-requires : goal.peer_of-control_local-requires
peer_of-control_local-requires c =
    let document = view c.args.document.now in
    there_as document c.requires ControlLocal 0 PeerText (control_there document c.requires) refl refl
