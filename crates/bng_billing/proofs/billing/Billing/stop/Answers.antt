use Rattle.bng_acct.specs.declared.facts.StatusType.TheVariants.{Stop}
use Rattle.bng_billing.proofs.Keeping.{forms_keeps}
use Rattle.bng_billing.proofs.billing.Billing.stop.Goals as goal

pub invariant_of-self : goal.invariant_of-self
invariant_of-self c = forms_keeps c.self.inside.client c.self.inside.spool c.stop.new.self Stop c.args.term.now c.args.moment c.stop.result.0 c.stop.ensures c.self.invariant
