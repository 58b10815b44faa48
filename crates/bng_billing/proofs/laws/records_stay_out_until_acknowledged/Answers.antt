use Rattle.bng_billing.proofs.Acting.{stays_out}
use Rattle.bng_billing.proofs.laws.records_stay_out_until_acknowledged.Goals as goal

pub returns : goal.returns
returns c = stays_out
