use Rattle.std.proofs.Common.{List, [], ◌∷◌, get_or, All, ◌<◌, ◌^◌, length, length-append, arith, inl, inr, sym, ap, subst}
use Rattle.std.proofs.lemmas.List.Elements.{All-push}
use Rattle.bng_base.specs.declared.address.Ip4.{Ip4}
use Rattle.bng_schema.specs.Address.{address_text}
use Rattle.bng_schema.proofs.Listing.{as_many, spells, spells_more, other_many}
use Rattle.bng_schema.proofs.addresses.addresses_in.Goals as goal

pub returns-then-list-least-clause-none : goal.returns-then-list-least-clause-none
returns-then-list-least-clause-none g c s h =
    elim c.then-list-least.either [
      | inl fewer ↦ other_many c.args.list.now c.args.least g.row.MOST s (inl fewer) h
      | inr more ↦ other_many c.args.list.now c.args.least g.row.MOST s (inr (omega arith)) h
    ]

pub returns-in_err-address-clause-none : goal.returns-in_err-address-clause-none
returns-in_err-address-clause-none g c = rw c.from_residual.ensures (λ s h.
    let list = c.args.list.now in
    let place = c.loop-value.value-index in
    let blank : Ip4 = record { 0 = 0 } in
    let many = as_many address_text list s.items h.list in
    c.in_err-address.ensures.none (get_or s.items place blank) record {
      text = spells address_text list s.items place c.value-item.result blank h.list (omega (arith, c.loop-value-test.true)) c.value-item.is;
      address = h.are place blank (omega (arith, c.loop-value-test.true));
    })

pub loop-value-preserved : goal.loop-value-preserved
loop-value-preserved g c =
    let is = c.in_ok-address.ensures.found in
    let longer = ap length c.push.ensures.items in
    let sum = length-append c.loop-value.addresses.items (c.in_ok-address.address ∷ []) in
    let done = c.loop-value.invariant.done in
    record {
      some = c.loop-value.invariant.some;
      few = c.loop-value.invariant.few;
      done = omega (arith, longer, sum, done);
      spell = spells_more address_text c.args.list.now c.loop-value.addresses.items c.push.new.self.items c.loop-value.value-index c.value-item.result c.in_ok-address.address
          (omega (arith, c.loop-value-test.true)) c.value-item.is c.loop-value.invariant.spell is.text c.push.ensures.items;
      are = subst (λ (xs : List Ip4). All (λ a. a.0 < 2 ^ 32) xs) (sym c.push.ensures.items)
          (All-push (λ a. a.0 < 2 ^ 32) c.loop-value.addresses.items c.in_ok-address.address c.loop-value.invariant.are is.address);
    }
