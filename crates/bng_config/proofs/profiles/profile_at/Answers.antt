use Rattle.std.proofs.Common.{refl}
use Rattle.toml.specs.View.{view}
use Rattle.bng_schema.specs.declared.keys.Field.TheVariants.{ProfileName}
use Rattle.bng_schema.specs.declared.keys.Form.TheVariants.{LabelText}
use Rattle.bng_config.proofs.Held.{there_as, up_whole, down_whole}
use Rattle.bng_config.proofs.profiles.profile_at.Goals as goal

pub label_of-name-requires : goal.label_of-name-requires
label_of-name-requires c =
    let document = view c.args.document.now in
    there_as document c.requires.sound ProfileName c.args.place LabelText c.requires.there refl refl

pub rate_at-up-requires : goal.rate_at-up-requires
rate_at-up-requires c = up_whole (view c.args.document.now) c.requires.sound c.args.place c.requires.there

pub rate_at-down-requires : goal.rate_at-down-requires
rate_at-down-requires c = down_whole (view c.args.document.now) c.requires.sound c.args.place c.requires.there
