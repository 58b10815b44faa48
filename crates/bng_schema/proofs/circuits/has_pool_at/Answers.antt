use Rattle.toml.specs.View.{view}
use Rattle.bng_base.specs.Ranges.{InRange}
use Rattle.bng_schema.specs.Ranges.{IsRangeAt}
use Rattle.bng_schema.proofs.Totals.{range_once}
use Rattle.bng_schema.proofs.Such.{one_such, none_such}
use Rattle.bng_schema.proofs.circuits.has_pool_at.Goals as goal

pub returns-in-Some : goal.returns-in-Some
returns-in-Some c =
    let document = view c.args.document.now in
    one_such (IsRangeAt document c.args.place) (λ r. InRange r c.args.address.0) (range_once document c.args.place) c.in-Some.range c.contains.result c.in-Some.ensures.found c.contains.ensures

pub returns-in-None : goal.returns-in-None
returns-in-None c = none_such (IsRangeAt (view c.args.document.now) c.args.place) (λ r. InRange r c.args.address.0) c.in-None.ensures.none
