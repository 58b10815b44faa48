use Rattle.toml.specs.View.{view}
use Rattle.bng_schema.specs.declared.keys.Field.TheVariants.{StaticAddress}
use Rattle.bng_schema.specs.declared.keys.Key.TheVariants.{Of}
use Rattle.bng_schema.specs.Repeats.{HasText, StandsBelow}
use Rattle.bng_schema.proofs.Such.{one_such, text_once}
use Rattle.bng_schema.proofs.circuits.shares_address.Goals as goal

pub returns-in-Some : goal.returns-in-Some
returns-in-Some c =
    let document = view c.args.document.now in
    let key = Of StaticAddress c.args.place in
    one_such (HasText document key) (StandsBelow document StaticAddress c.args.place) (text_once document key) c.in-Some.text.now c.stands_below.result c.in-Some.ensures.found c.stands_below.ensures
