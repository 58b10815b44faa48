use Rattle.std.proofs.Common.{refl}
use Rattle.toml.specs.View.{view}
use Rattle.bng_schema.specs.declared.keys.Field.TheVariants.{RadiusAuthLocal, RadiusAuthServer, RadiusAcctLocal, RadiusAcctServer, RadiusSecret, RadiusTries}
use Rattle.bng_schema.specs.declared.keys.Form.TheVariants.{PeerText, OctetText, Number}
use Rattle.bng_config.proofs.Held.{sound_as, there_as, radius_there}
use Rattle.bng_config.proofs.radius.radius_of.Goals as goal

pub peer_of-auth_local-requires : goal.peer_of-auth_local-requires
peer_of-auth_local-requires c =
    let document = view c.args.document.now in
    there_as document c.requires RadiusAuthLocal 0 PeerText (radius_there document c.requires) refl refl

pub peer_of-auth_server-requires : goal.peer_of-auth_server-requires
peer_of-auth_server-requires c =
    let document = view c.args.document.now in
    there_as document c.requires RadiusAuthServer 0 PeerText (radius_there document c.requires) refl refl

pub peer_of-acct_local-requires : goal.peer_of-acct_local-requires
peer_of-acct_local-requires c =
    let document = view c.args.document.now in
    there_as document c.requires RadiusAcctLocal 0 PeerText (radius_there document c.requires) refl refl

pub peer_of-acct_server-requires : goal.peer_of-acct_server-requires
peer_of-acct_server-requires c =
    let document = view c.args.document.now in
    there_as document c.requires RadiusAcctServer 0 PeerText (radius_there document c.requires) refl refl

pub secret_of-secret-requires : goal.secret_of-secret-requires
secret_of-secret-requires c =
    let document = view c.args.document.now in
    there_as document c.requires RadiusSecret 0 (OctetText 64) (radius_there document c.requires) refl refl

pub number_or-tries-requires : goal.number_or-tries-requires
number_or-tries-requires c =
    let document = view c.args.document.now in
    sound_as document c.requires RadiusTries 0 (Number 1 10) (radius_there document c.requires) refl
