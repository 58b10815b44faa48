use Rattle.bng_billing.proofs.Delivering.{are_requests}
use Rattle.bng_billing.proofs.laws.requests_are_of_records.Goals as goal

pub returns : goal.returns
returns c = are_requests
