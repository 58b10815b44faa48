use Rattle.std.proofs.Common.{◌≡◌, ℕ, true, None, sym, ap, subst, ◌∙◌}
use Rattle.std.specs.Prelude.{slice_index}
use Rattle.bng_rad_client.specs.declared.replies.Replied.TheVariants.{Matched}
use Rattle.bng_rad_client.specs.declared.rules.Lane.TheVariants.{Acct}
use Rattle.bng_rad_client.specs.declared.rules.Owner.{Owner}
use Rattle.bng_rad_client.specs.declared.rules.Owner.TheVariants.{Ask}
use Rattle.bng_rad_client.specs.Replies.{Answers}
use Rattle.bng_billing.specs.State.{BillingState, flag_of, owner_of}
use Rattle.bng_billing.specs.Replies.{Acknowledges, Takes}
use Rattle.bng_billing.proofs.Clients.{matched, matched_keeps, none_matched, no_question}
use Rattle.bng_billing.proofs.billing.Billing.take.Goals as goal

pub invariant_of-self : goal.invariant_of-self
invariant_of-self c =
    let before : BillingState = record { client = c.self.inside.client; spool = c.self.inside.spool; sent = c.self.inside.sent } in
    let k = c.acked.ensures in
    matched_keeps before c.args.from c.args.octets.now c.reply.new.self c.acked.new.self c.in-Matched-Record.field-0 c.in-Matched-Record.number.0 c.in-Matched-Record.ensures.answer
    c.in-Matched-Record.field-0-is c.in-Matched-Record.ensures.matched c.reply.ensures.others (record { sets = k.sets; waiting = k.waiting; terms = k.terms; agree = k.agree; rules = k.rules }) c.self.invariant

pub unreachable-requires : goal.unreachable-requires
unreachable-requires c =
    let before : BillingState = record { client = c.self.inside.client; spool = c.self.inside.spool; sent = c.self.inside.sent } in
    let is = no_question before c.args.from c.args.octets.now c.in-Matched-Ask.field-0 c.self.invariant c.in-Matched-Ask.ensures.answer in
    let both : Ask c.in-Matched-Ask.field-0-0 c.in-Matched-Ask.field-0-1 ≡ owner_of is.0 = sym c.in-Matched-Ask.field-0-is ∙ is.1 in
    cc

pub returns-in-Matched-Record : goal.returns-in-Matched-Record
returns-in-Matched-Record c =
    let before : BillingState = record { client = c.self.inside.client; spool = c.self.inside.spool; sent = c.self.inside.sent } in
    let octets = c.args.octets.now in
    let k = c.acked.ensures in
    let sent : flag_of before (slice_index octets 1) ≡ true = ap (flag_of before) (sym c.from.ensures) ∙ c.if-not-self-from.false in
    rw (← c.self.view_is)
    (matched before c.args.from octets c.reply.new.self c.acked.new.self c.in-Matched-Record.field-0 c.in-Matched-Record.number.0 c.from-in-Matched-Record.result
    c.in-Matched-Record.ensures.answer sent c.in-Matched-Record.field-0-is c.from-in-Matched-Record.ensures c.in-Matched-Record.ensures.matched c.reply.ensures.last c.reply.ensures.others
    (record { sets = k.sets; waiting = k.waiting; terms = k.terms; agree = k.agree; rules = k.rules }))

pub returns-in-Ignored : goal.returns-in-Ignored
returns-in-Ignored c =
    let before : BillingState = record { client = c.self.inside.client; spool = c.self.inside.spool; sent = c.self.inside.sent } in
    let after : BillingState = record before { client = c.reply.new.self } in
    subst (λ (b : BillingState). Takes b c.args.from c.args.octets.now None after) c.self.view_is
    (none_matched before c.args.from c.args.octets.now c.reply.new.self c.in-Ignored.field-0 c.in-Ignored.ensures.answer c.in-Ignored.ensures.ignored)
