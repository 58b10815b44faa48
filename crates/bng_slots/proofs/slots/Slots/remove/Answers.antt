use Rattle.std.proofs.Common.{sym, ap, ◌∙◌}
use Rattle.bng_slots.specs.Orders.{circuit_order, address_order, term_order, due_order}
use Rattle.bng_slots.specs.OrderLaws.{circuit_order-total, address_order-total, term_order-total, due_order-total, circuit_order-IsAntisymmetric, address_order-IsAntisymmetric, term_order-IsAntisymmetric, due_order-IsAntisymmetric}
use Rattle.bng_slots.specs.Inside.{by_number, due_of}
use Rattle.bng_slots.proofs.SlotLaws.{at_place, outside, forget_there, agrees_forgotten, take_map, take_slots, remove_absent}
use Rattle.bng_slots.proofs.slots.Slots.remove.Goals as goal

pub returns-in_err-place-clause-value : goal.returns-in_err-place-clause-value
returns-in_err-place-clause-value g c = rw (← c.self.view_is, c.from_residual.ensures) (sym (outside c.self.inside.shard c.self.inside.shelf c.self.invariant.places c.args.n.0 c.in_err-place.ensures.nowhere))

pub returns-in_err-place-clause-after : goal.returns-in_err-place-clause-after
returns-in_err-place-clause-after g c = rw (← c.self.view_is) (ap (λ m. record { shard = c.self.inside.shard; by_number = m }) (sym (remove_absent (by_number c.self.inside.shard c.self.inside.shelf) c.args.n.0 (outside c.self.inside.shard c.self.inside.shelf c.self.invariant.places c.args.n.0 c.in_err-place.ensures.nowhere))))

pub returns-in_err-value-clause-value : goal.returns-in_err-value-clause-value
returns-in_err-value-clause-value g c = rw (← c.self.view_is, c.from_residual-in_err-value.ensures) (sym (at_place c.self.inside.shard c.self.inside.shelf c.self.invariant.places c.args.n.0 c.in_ok-place.place c.in_ok-place.ensures.here.1 ∙ sym c.in_err-value.ensures.value))

pub returns-in_err-value-clause-after : goal.returns-in_err-value-clause-after
returns-in_err-value-clause-after g c = rw (← c.self.view_is, c.take.ensures.after) (ap (λ m. record { shard = c.self.inside.shard; by_number = m }) (take_map g.V.Slotted.circuit g.V.Slotted.address g.V.Slotted.term g.V.Slotted.deadline c.self.inside.shard c.self.inside.shelf c.self.inside.vacancy.words c.self.inside.circuits c.self.inside.addresses c.self.inside.terms c.self.inside.deadlines c.self.invariant c.args.n c.in_ok-place.place c.in_ok-place.ensures.here.0 c.in_ok-place.ensures.here.1))

pub forget-requires : goal.forget-requires
forget-requires g c =
    let held = at_place c.self.inside.shard c.self.inside.shelf c.self.invariant.places c.args.n.0 c.in_ok-place.place c.in_ok-place.ensures.here.1 ∙ sym c.in_ok-value.ensures.value in
    record { there = forget_there circuit_order circuit_order-total circuit_order-IsAntisymmetric (λ _. g.V.Slotted.circuit) (by_number c.self.inside.shard c.self.inside.shelf) c.self.inside.circuits c.self.invariant.circuits_agree c.args.n c.in_ok-value.value c.circuit.result c.circuit.ensures held }

pub forget-requires-2 : goal.forget-requires-2
forget-requires-2 g c =
    let held = at_place c.self.inside.shard c.self.inside.shelf c.self.invariant.places c.args.n.0 c.in_ok-place.place c.in_ok-place.ensures.here.1 ∙ sym c.in_ok-value.ensures.value in
    record { there = forget_there address_order address_order-total address_order-IsAntisymmetric (λ _. g.V.Slotted.address) (by_number c.self.inside.shard c.self.inside.shelf) c.self.inside.addresses c.self.invariant.addresses_agree c.args.n c.in_ok-value.value c.address.result c.address.ensures held }

pub forget-requires-3 : goal.forget-requires-3
forget-requires-3 g c =
    let held = at_place c.self.inside.shard c.self.inside.shelf c.self.invariant.places c.args.n.0 c.in_ok-place.place c.in_ok-place.ensures.here.1 ∙ sym c.in_ok-value.ensures.value in
    record { there = forget_there term_order term_order-total term_order-IsAntisymmetric (λ _. g.V.Slotted.term) (by_number c.self.inside.shard c.self.inside.shelf) c.self.inside.terms c.self.invariant.terms_agree c.args.n c.in_ok-value.value c.term.result c.term.ensures held }

pub forget-requires-4 : goal.forget-requires-4
forget-requires-4 g c =
    let held = at_place c.self.inside.shard c.self.inside.shelf c.self.invariant.places c.args.n.0 c.in_ok-place.place c.in_ok-place.ensures.here.1 ∙ sym c.in_ok-value.ensures.value in
    record { there = forget_there due_order due_order-total due_order-IsAntisymmetric (due_of g.V.Slotted.deadline) (by_number c.self.inside.shard c.self.inside.shelf) c.self.inside.deadlines c.self.invariant.deadlines_agree c.args.n c.in_ok-value.value c.due_of.result c.due_of.ensures held }

pub invariant_of-self-2 : goal.invariant_of-self-2
invariant_of-self-2 g c =
    let held = at_place c.self.inside.shard c.self.inside.shelf c.self.invariant.places c.args.n.0 c.in_ok-place.place c.in_ok-place.ensures.here.1 ∙ sym c.in_ok-value.ensures.value in
    let circuits = agrees_forgotten circuit_order circuit_order-total circuit_order-IsAntisymmetric (λ _. g.V.Slotted.circuit) (by_number c.self.inside.shard c.self.inside.shelf) c.self.inside.circuits c.self.invariant.circuits_agree c.args.n c.in_ok-value.value c.circuit.result c.circuit.ensures c.forget.new.self held c.forget.ensures.finds c.forget.ensures.len c.forget.ensures.room in
    let addresses = agrees_forgotten address_order address_order-total address_order-IsAntisymmetric (λ _. g.V.Slotted.address) (by_number c.self.inside.shard c.self.inside.shelf) c.self.inside.addresses c.self.invariant.addresses_agree c.args.n c.in_ok-value.value c.address.result c.address.ensures c.forget-2.new.self held c.forget-2.ensures.finds c.forget-2.ensures.len c.forget-2.ensures.room in
    let terms = agrees_forgotten term_order term_order-total term_order-IsAntisymmetric (λ _. g.V.Slotted.term) (by_number c.self.inside.shard c.self.inside.shelf) c.self.inside.terms c.self.invariant.terms_agree c.args.n c.in_ok-value.value c.term.result c.term.ensures c.forget-3.new.self held c.forget-3.ensures.finds c.forget-3.ensures.len c.forget-3.ensures.room in
    let deadlines = agrees_forgotten due_order due_order-total due_order-IsAntisymmetric (due_of g.V.Slotted.deadline) (by_number c.self.inside.shard c.self.inside.shelf) c.self.inside.deadlines c.self.invariant.deadlines_agree c.args.n c.in_ok-value.value c.due_of.result c.due_of.ensures c.forget-4.new.self held c.forget-4.ensures.finds c.forget-4.ensures.len c.forget-4.ensures.room in
    rw c.take.ensures.after (take_slots g.V.Slotted.circuit g.V.Slotted.address g.V.Slotted.term g.V.Slotted.deadline c.self.inside.shard c.self.inside.shelf c.self.inside.vacancy.words c.self.inside.circuits c.self.inside.addresses c.self.inside.terms c.self.inside.deadlines c.self.invariant c.args.n c.in_ok-place.place c.in_ok-place.ensures.here.0 c.in_ok-place.ensures.here.1 c.give_back.new.self.words c.forget.new.self c.forget-2.new.self c.forget-3.new.self c.forget-4.new.self c.give_back.ensures circuits addresses terms deadlines)

pub returns-clause-value : goal.returns-clause-value
returns-clause-value g c =
    let held = at_place c.self.inside.shard c.self.inside.shelf c.self.invariant.places c.args.n.0 c.in_ok-place.place c.in_ok-place.ensures.here.1 ∙ sym c.in_ok-value.ensures.value in
    rw (← c.self.view_is) (sym held)

pub returns-clause-after : goal.returns-clause-after
returns-clause-after g c = rw (← c.self.view_is, c.take.ensures.after) (ap (λ m. record { shard = c.self.inside.shard; by_number = m }) (take_map g.V.Slotted.circuit g.V.Slotted.address g.V.Slotted.term g.V.Slotted.deadline c.self.inside.shard c.self.inside.shelf c.self.inside.vacancy.words c.self.inside.circuits c.self.inside.addresses c.self.inside.terms c.self.inside.deadlines c.self.invariant c.args.n c.in_ok-place.place c.in_ok-place.ensures.here.0 c.in_ok-place.ensures.here.1))
