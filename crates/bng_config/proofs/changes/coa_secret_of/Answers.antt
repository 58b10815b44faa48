use Rattle.std.proofs.Common.{refl}
use Rattle.toml.specs.View.{view}
use Rattle.bng_schema.specs.declared.keys.Field.TheVariants.{RadiusSecret}
use Rattle.bng_schema.specs.declared.keys.Form.TheVariants.{OctetText}
use Rattle.bng_config.proofs.Held.{there_as, radius_there}
use Rattle.bng_config.proofs.changes.coa_secret_of.Goals as goal

pub secret_of-requires : goal.secret_of-requires
secret_of-requires c =
    let document = view c.args.document.now in
    there_as document c.requires.sound RadiusSecret 0 (OctetText 64) (radius_there document c.requires.sound) refl refl
