use Rattle.bng_billing.proofs.Stops.{stops_acknowledged}
use Rattle.bng_billing.proofs.laws.stops_are_acknowledged.Goals as goal

pub returns : goal.returns
returns c = stops_acknowledged
