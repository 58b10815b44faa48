use Rattle.std.proofs.Common.{subst}
use Rattle.bng_billing.specs.State.{BillingState}
use Rattle.bng_billing.specs.Stopping.{StopsOnly}
use Rattle.bng_billing.proofs.Keeping.{stops_keeps}
use Rattle.bng_billing.proofs.Stopping.{stops}
use Rattle.bng_billing.proofs.billing.Billing.stops_only.Goals as goal

pub invariant_of-self : goal.invariant_of-self
invariant_of-self c =
    let before : BillingState = record { client = c.self.inside.client; spool = c.self.inside.spool; sent = c.self.inside.sent } in
    let after : BillingState = record { client = c.withdraw_lost.new.client; spool = c.stops_only.new.self; sent = c.withdraw_lost.new.sent } in
    let k = c.stops_only.ensures in
    stops_keeps before after (stops before after.client after.spool after.sent c.self.invariant.size c.withdraw_lost.ensures k.sheets k.waiting k.live k.fewer k.agree k.rules) c.self.invariant

pub returns : goal.returns
returns c =
    let before : BillingState = record { client = c.self.inside.client; spool = c.self.inside.spool; sent = c.self.inside.sent } in
    let after : BillingState = record { client = c.withdraw_lost.new.client; spool = c.stops_only.new.self; sent = c.withdraw_lost.new.sent } in
    let k = c.stops_only.ensures in
    subst (λ (b : BillingState). StopsOnly b after) c.self.view_is
    (stops before after.client after.spool after.sent c.self.invariant.size c.withdraw_lost.ensures k.sheets k.waiting k.live k.fewer k.agree k.rules)
