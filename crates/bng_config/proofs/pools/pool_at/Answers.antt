use Rattle.std.proofs.Common.{refl}
use Rattle.toml.specs.View.{view}
use Rattle.bng_schema.specs.declared.keys.Field.TheVariants.{PoolName, PoolFirst, PoolLast}
use Rattle.bng_schema.specs.declared.keys.Form.TheVariants.{LabelText, AddressText}
use Rattle.bng_config.proofs.Held.{there_as}
use Rattle.bng_config.proofs.pools.pool_at.Goals as goal

pub label_of-name-requires : goal.label_of-name-requires
label_of-name-requires c =
    let document = view c.args.document.now in
    there_as document c.requires.sound PoolName c.args.place LabelText c.requires.there refl refl

pub address_of-first-requires : goal.address_of-first-requires
address_of-first-requires c =
    let document = view c.args.document.now in
    there_as document c.requires.sound PoolFirst c.args.place AddressText c.requires.there refl refl

pub address_of-last-requires : goal.address_of-last-requires
address_of-last-requires c =
    let document = view c.args.document.now in
    there_as document c.requires.sound PoolLast c.args.place AddressText c.requires.there refl refl
