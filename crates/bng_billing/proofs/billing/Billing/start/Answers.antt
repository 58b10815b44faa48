use Rattle.bng_acct.specs.declared.facts.StatusType.TheVariants.{Start}
use Rattle.bng_billing.proofs.Keeping.{forms_keeps}
use Rattle.bng_billing.proofs.billing.Billing.start.Goals as goal

pub invariant_of-self : goal.invariant_of-self
invariant_of-self c = forms_keeps c.self.inside.client c.self.inside.spool c.start.new.self Start c.args.term.now c.args.moment c.start.result.0 c.start.ensures c.self.invariant
