use Rattle.bng_billing.proofs.Delivering.{stops_sent}
use Rattle.bng_billing.proofs.laws.acknowledged_stops_were_sent.Goals as goal

pub returns : goal.returns
returns c = stops_sent
