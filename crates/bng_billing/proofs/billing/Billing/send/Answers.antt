use Rattle.std.proofs.Common.{ℕ, false, sym, subst}
use Rattle.std.specs.Prelude.{slice_set}
use Rattle.bng_billing.specs.State.{BillingState}
use Rattle.bng_billing.specs.Sending.{IsSentBy}
use Rattle.bng_billing.proofs.Clients.{sends}
use Rattle.bng_billing.proofs.Keeping.{sends_keeps}
use Rattle.bng_billing.proofs.Signing.{no_padding}
use Rattle.bng_billing.proofs.billing.Billing.send.Goals as goal

pub invariant_of-self-in-Sent : goal.invariant_of-self-in-Sent
invariant_of-self-in-Sent c =
    let h = c.in_ok-number.ensures.some in
    let a = c.in-Sent.ensures.sent h.holds.packet h.holds.reads in
    sends_keeps c.self.inside.client c.ask.new.self c.self.inside.spool c.next.new.self c.in_ok-number.number.0 c.args.now c.in-Sent.id c.next.new.into c.in-Sent.frame h
    a (no_padding c.self.inside.spool.rules c.self.inside.client.secret h.sheet.record c.in-Sent.id c.next.new.into c.in-Sent.frame.payload h.holds a.reads c.in-Sent.ensures.size) c.ask.ensures.others.secret c.ask.ensures.others.table c.self.invariant

pub returns-clause-sent : goal.returns-clause-sent
returns-clause-sent c =
    let before : BillingState = record { client = c.self.inside.client; spool = c.self.inside.spool; sent = c.self.inside.sent } in
    let after : ℕ → BillingState = λ i. record { client = c.ask.new.self; spool = c.next.new.self; sent = slice_set c.self.inside.sent i false } in
    let told = λ (b : BillingState) (i : ℕ). IsSentBy b c.args.now c.in_ok-number.number.0 c.in-Sent.id c.in-Sent.frame.payload (after i) in
    let h = c.in_ok-number.ensures.some in
    let a = c.in-Sent.ensures.sent h.holds.packet h.holds.reads in
    subst (λ (b : BillingState). told b c.from.result) c.self.view_is
    (subst (told before) (sym c.from.ensures)
    (sends before c.ask.new.self c.next.new.self c.in_ok-number.number.0 c.args.now c.in-Sent.id c.next.new.into c.in-Sent.frame h
    a (no_padding c.self.inside.spool.rules c.self.inside.client.secret h.sheet.record c.in-Sent.id c.next.new.into c.in-Sent.frame.payload h.holds a.reads c.in-Sent.ensures.size) c.ask.ensures.others c.self.invariant))
