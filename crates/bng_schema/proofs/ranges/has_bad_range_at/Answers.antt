use Rattle.toml.specs.View.{view}
use Rattle.bng_schema.specs.Ranges.{IsRangeAt, IsUnfit}
use Rattle.bng_schema.proofs.Totals.{range_once}
use Rattle.bng_schema.proofs.Such.{one_such, none_such}
use Rattle.bng_schema.proofs.ranges.has_bad_range_at.Goals as goal

pub returns-in-Some : goal.returns-in-Some
returns-in-Some c =
    let document = view c.args.document.now in
    one_such (IsRangeAt document c.args.place) (IsUnfit document c.args.place) (range_once document c.args.place) c.in-Some.range c.is_unfit.result c.in-Some.ensures.found c.is_unfit.ensures

pub returns-in-None : goal.returns-in-None
returns-in-None c =
    let document = view c.args.document.now in
    none_such (IsRangeAt document c.args.place) (IsUnfit document c.args.place) c.in-None.ensures.none
