use Rattle.bng_billing.proofs.Acting.{new_holds, calls_keep}
use Rattle.bng_billing.proofs.laws.records_wait_or_are_out.Goals as goal

pub returns : goal.returns
returns c = λ rules opening last calls new run. calls_keep calls opening last run (new_holds rules opening new)
