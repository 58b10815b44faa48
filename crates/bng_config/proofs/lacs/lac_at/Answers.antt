use Rattle.std.proofs.Common.{refl}
use Rattle.toml.specs.View.{view}
use Rattle.bng_schema.specs.declared.keys.Field.TheVariants.{LacIp, LacSecret}
use Rattle.bng_schema.specs.declared.keys.Form.TheVariants.{AddressText, OctetText}
use Rattle.bng_config.proofs.Held.{sound_as, there_as}
use Rattle.bng_config.proofs.lacs.lac_at.Goals as goal

pub address_of-ip-requires : goal.address_of-ip-requires
address_of-ip-requires c =
    let document = view c.args.document.now in
    there_as document c.requires.sound LacIp c.args.place AddressText c.requires.there refl refl

pub secret_or_none-secret-requires : goal.secret_or_none-secret-requires
secret_or_none-secret-requires c =
    let document = view c.args.document.now in
    sound_as document c.requires.sound LacSecret c.args.place (OctetText 64) c.requires.there refl
