use Rattle.bng_acct.specs.declared.facts.StatusType.TheVariants.{Interim}
use Rattle.bng_billing.proofs.Keeping.{forms_keeps}
use Rattle.bng_billing.proofs.billing.Billing.interim.Goals as goal

pub invariant_of-self : goal.invariant_of-self
invariant_of-self c = forms_keeps c.self.inside.client c.self.inside.spool c.interim.new.self Interim c.args.term.now c.args.moment c.interim.result.0 c.interim.ensures c.self.invariant
