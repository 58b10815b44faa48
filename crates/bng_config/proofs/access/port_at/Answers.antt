use Rattle.std.proofs.Common.{refl}
use Rattle.toml.specs.View.{view}
use Rattle.bng_schema.specs.declared.keys.Field.TheVariants.{AccessLocal, AccessPeer, AccessMac}
use Rattle.bng_schema.specs.declared.keys.Form.TheVariants.{PeerText, MacText}
use Rattle.bng_config.proofs.Held.{there_as}
use Rattle.bng_config.proofs.access.port_at.Goals as goal

pub peer_of-local-requires : goal.peer_of-local-requires
peer_of-local-requires c =
    let document = view c.args.document.now in
    there_as document c.requires.sound AccessLocal c.args.place PeerText c.requires.there refl refl

pub peer_of-peer-requires : goal.peer_of-peer-requires
peer_of-peer-requires c =
    let document = view c.args.document.now in
    there_as document c.requires.sound AccessPeer c.args.place PeerText c.requires.there refl refl

pub mac_of-mac-requires : goal.mac_of-mac-requires
mac_of-mac-requires c =
    let document = view c.args.document.now in
    there_as document c.requires.sound AccessMac c.args.place MacText c.requires.there refl refl
