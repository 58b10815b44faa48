use Rattle.std.proofs.Common.{ℕ, get_or, [], arith}
use Rattle.arrayvec.specs.ArrayVec.{ArrayVec}
use Rattle.bng_schema.proofs.Listing.{as_many, spells, too_many}
use Rattle.bng_schema.proofs.names.services_in.Goals as goal

pub returns-then-list-gt-MOST-clause-none : goal.returns-then-list-gt-MOST-clause-none
returns-then-list-gt-MOST-clause-none c s h = too_many c.args.list.now s (omega (arith, c.if-list-gt-MOST.true)) h

pub returns-in_err-service-clause-none : goal.returns-in_err-service-clause-none
returns-in_err-service-clause-none c = rw c.from_residual.ensures (λ s h.
    let list = c.args.list.now in
    let place = c.loop-value.value-index in
    let blank : ArrayVec ℕ = record { items = [] } in
    let many = as_many (λ x. x.items) list s.items h.list in
    c.in_err-service.ensures.none (get_or s.items place blank) record {
      text = spells (λ x. x.items) list s.items place c.value-item.result blank h.list (omega (arith, c.loop-value-test.true)) c.value-item.is;
      is = h.are place blank (omega (arith, c.loop-value-test.true));
    })
