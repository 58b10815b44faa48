use Rattle.std.proofs.Common.{◌≡◌, subst}
use Rattle.bng_rad_client.specs.declared.due.Sought.TheVariants.{Endless}
use Rattle.bng_rad_client.specs.Due.{is_sought, OneBelow}
use Rattle.bng_billing.specs.Due.{NoneToResend, due_count}
use Rattle.bng_billing.specs.State.{BillingState, places_of}
use Rattle.bng_billing.proofs.Clients.{none_due, one_due}
use Rattle.bng_billing.proofs.billing.Billing.is_due.Goals as goal

pub returns-clause-again : goal.returns-clause-again
returns-clause-again c = λ early.
    subst (λ (b : BillingState). NoneToResend b c.args.now) c.self.view_is (c.is_due.ensures.no early).1

pub returns-clause-done : goal.returns-clause-done
returns-clause-done c = λ early.
    let before : BillingState = record { client = c.self.inside.client; spool = c.self.inside.spool; sent = c.self.inside.sent } in
    subst (λ (b : BillingState). due_count b c.args.now ≡ 0) c.self.view_is (none_due before c.args.now c.self.invariant.size (c.is_due.ensures.no early).1)

pub returns-clause-due : goal.returns-clause-due
returns-clause-due c = λ late.
    subst (λ (b : BillingState). OneBelow (is_sought Endless c.args.now) (places_of b) 256) c.self.view_is
    (one_due c.self.inside.client c.self.inside.spool c.args.now c.self.invariant (c.is_due.ensures.yes late))
