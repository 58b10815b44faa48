use Rattle.bng_billing.proofs.Keeping.{new_billing}
use Rattle.bng_billing.proofs.billing.Billing.open.Goals as goal

pub invariant_of-result : goal.invariant_of-result
invariant_of-result c = new_billing c.in-Ok-open.client c.in-Ok.spool _ _ _ _ _ c.in-Ok-open.ensures c.in-Ok.ensures
