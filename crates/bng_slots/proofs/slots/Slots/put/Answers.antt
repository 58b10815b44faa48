use Rattle.std.proofs.Common.{sym, ap, ◌∙◌}
use Rattle.bng_slots.specs.Orders.{circuit_order, address_order, term_order, due_order}
use Rattle.bng_slots.specs.OrderLaws.{circuit_order-total, address_order-total, term_order-total, due_order-total, circuit_order-IsAntisymmetric, address_order-IsAntisymmetric, term_order-IsAntisymmetric, due_order-IsAntisymmetric}
use Rattle.bng_slots.specs.Inside.{by_number, due_of}
use Rattle.bng_slots.proofs.SlotLaws.{at_place, one_free, note_room, note_absent, due_absent, agrees_noted, put_map, put_slots}
use Rattle.bng_slots.proofs.slots.Slots.put.Goals as goal

pub note-requires-clause-room : goal.note-requires-clause-room
note-requires-clause-room g c =
    let vacant = rw (← c.self.view_is) at c.requires.vacant in
    note_room circuit_order circuit_order-total circuit_order-IsAntisymmetric (λ _. g.V.Slotted.circuit) (by_number c.self.inside.shard c.self.inside.shelf) c.self.inside.circuits c.self.invariant.circuits_agree (one_free g.V.Slotted.circuit g.V.Slotted.address g.V.Slotted.term g.V.Slotted.deadline c.self.inside.shard c.self.inside.shelf c.self.inside.vacancy.words c.self.inside.circuits c.self.inside.addresses c.self.inside.terms c.self.inside.deadlines c.self.invariant c.args.n c.in-Some.place c.in-Some.ensures.here.0 c.in-Some.ensures.here.1 vacant)

pub note-requires-clause-absent : goal.note-requires-clause-absent
note-requires-clause-absent g c =
    note_absent circuit_order circuit_order-total circuit_order-IsAntisymmetric g.V.Slotted.circuit (by_number c.self.inside.shard c.self.inside.shelf) c.self.inside.circuits c.self.invariant.circuits_agree c.args.value c.circuit.result c.circuit.ensures (rw (← c.self.view_is) at c.requires.circuit)

pub note-requires-2-clause-room : goal.note-requires-2-clause-room
note-requires-2-clause-room g c =
    let vacant = rw (← c.self.view_is) at c.requires.vacant in
    note_room address_order address_order-total address_order-IsAntisymmetric (λ _. g.V.Slotted.address) (by_number c.self.inside.shard c.self.inside.shelf) c.self.inside.addresses c.self.invariant.addresses_agree (one_free g.V.Slotted.circuit g.V.Slotted.address g.V.Slotted.term g.V.Slotted.deadline c.self.inside.shard c.self.inside.shelf c.self.inside.vacancy.words c.self.inside.circuits c.self.inside.addresses c.self.inside.terms c.self.inside.deadlines c.self.invariant c.args.n c.in-Some.place c.in-Some.ensures.here.0 c.in-Some.ensures.here.1 vacant)

pub note-requires-2-clause-absent : goal.note-requires-2-clause-absent
note-requires-2-clause-absent g c =
    note_absent address_order address_order-total address_order-IsAntisymmetric g.V.Slotted.address (by_number c.self.inside.shard c.self.inside.shelf) c.self.inside.addresses c.self.invariant.addresses_agree c.args.value c.address.result c.address.ensures (rw (← c.self.view_is) at c.requires.address)

pub note-requires-3-clause-room : goal.note-requires-3-clause-room
note-requires-3-clause-room g c =
    let vacant = rw (← c.self.view_is) at c.requires.vacant in
    note_room term_order term_order-total term_order-IsAntisymmetric (λ _. g.V.Slotted.term) (by_number c.self.inside.shard c.self.inside.shelf) c.self.inside.terms c.self.invariant.terms_agree (one_free g.V.Slotted.circuit g.V.Slotted.address g.V.Slotted.term g.V.Slotted.deadline c.self.inside.shard c.self.inside.shelf c.self.inside.vacancy.words c.self.inside.circuits c.self.inside.addresses c.self.inside.terms c.self.inside.deadlines c.self.invariant c.args.n c.in-Some.place c.in-Some.ensures.here.0 c.in-Some.ensures.here.1 vacant)

pub note-requires-3-clause-absent : goal.note-requires-3-clause-absent
note-requires-3-clause-absent g c =
    note_absent term_order term_order-total term_order-IsAntisymmetric g.V.Slotted.term (by_number c.self.inside.shard c.self.inside.shelf) c.self.inside.terms c.self.invariant.terms_agree c.args.value c.term.result c.term.ensures (rw (← c.self.view_is) at c.requires.term)

pub note-requires-4-clause-room : goal.note-requires-4-clause-room
note-requires-4-clause-room g c =
    let vacant = rw (← c.self.view_is) at c.requires.vacant in
    note_room due_order due_order-total due_order-IsAntisymmetric (due_of g.V.Slotted.deadline) (by_number c.self.inside.shard c.self.inside.shelf) c.self.inside.deadlines c.self.invariant.deadlines_agree (one_free g.V.Slotted.circuit g.V.Slotted.address g.V.Slotted.term g.V.Slotted.deadline c.self.inside.shard c.self.inside.shelf c.self.inside.vacancy.words c.self.inside.circuits c.self.inside.addresses c.self.inside.terms c.self.inside.deadlines c.self.invariant c.args.n c.in-Some.place c.in-Some.ensures.here.0 c.in-Some.ensures.here.1 vacant)

pub note-requires-4-clause-absent : goal.note-requires-4-clause-absent
note-requires-4-clause-absent g c =
    let vacant = rw (← c.self.view_is) at c.requires.vacant in
    due_absent g.V.Slotted.deadline (by_number c.self.inside.shard c.self.inside.shelf) c.self.inside.deadlines c.self.invariant.deadlines_agree c.args.n c.args.value c.due_of.result c.due_of.ensures vacant

pub put-requires-clause-empty : goal.put-requires-clause-empty
put-requires-clause-empty g c =
    let vacant = rw (← c.self.view_is) at c.requires.vacant in
    sym (at_place c.self.inside.shard c.self.inside.shelf c.self.invariant.places c.args.n.0 c.in-Some.place c.in-Some.ensures.here.1) ∙ vacant

pub invariant_of-self : goal.invariant_of-self
invariant_of-self g c =
    let vacant = rw (← c.self.view_is) at c.requires.vacant in
    let circuits = agrees_noted circuit_order circuit_order-total circuit_order-IsAntisymmetric (λ _. g.V.Slotted.circuit) (by_number c.self.inside.shard c.self.inside.shelf) c.self.inside.circuits c.self.invariant.circuits_agree c.args.n c.args.value c.circuit.result c.circuit.ensures c.note.new.self vacant (note_absent circuit_order circuit_order-total circuit_order-IsAntisymmetric g.V.Slotted.circuit (by_number c.self.inside.shard c.self.inside.shelf) c.self.inside.circuits c.self.invariant.circuits_agree c.args.value c.circuit.result c.circuit.ensures (rw (← c.self.view_is) at c.requires.circuit)) c.note.ensures.finds c.note.ensures.len c.note.ensures.room in
    let addresses = agrees_noted address_order address_order-total address_order-IsAntisymmetric (λ _. g.V.Slotted.address) (by_number c.self.inside.shard c.self.inside.shelf) c.self.inside.addresses c.self.invariant.addresses_agree c.args.n c.args.value c.address.result c.address.ensures c.note-2.new.self vacant (note_absent address_order address_order-total address_order-IsAntisymmetric g.V.Slotted.address (by_number c.self.inside.shard c.self.inside.shelf) c.self.inside.addresses c.self.invariant.addresses_agree c.args.value c.address.result c.address.ensures (rw (← c.self.view_is) at c.requires.address)) c.note-2.ensures.finds c.note-2.ensures.len c.note-2.ensures.room in
    let terms = agrees_noted term_order term_order-total term_order-IsAntisymmetric (λ _. g.V.Slotted.term) (by_number c.self.inside.shard c.self.inside.shelf) c.self.inside.terms c.self.invariant.terms_agree c.args.n c.args.value c.term.result c.term.ensures c.note-3.new.self vacant (note_absent term_order term_order-total term_order-IsAntisymmetric g.V.Slotted.term (by_number c.self.inside.shard c.self.inside.shelf) c.self.inside.terms c.self.invariant.terms_agree c.args.value c.term.result c.term.ensures (rw (← c.self.view_is) at c.requires.term)) c.note-3.ensures.finds c.note-3.ensures.len c.note-3.ensures.room in
    let deadlines = agrees_noted due_order due_order-total due_order-IsAntisymmetric (due_of g.V.Slotted.deadline) (by_number c.self.inside.shard c.self.inside.shelf) c.self.inside.deadlines c.self.invariant.deadlines_agree c.args.n c.args.value c.due_of.result c.due_of.ensures c.note-4.new.self vacant (due_absent g.V.Slotted.deadline (by_number c.self.inside.shard c.self.inside.shelf) c.self.inside.deadlines c.self.invariant.deadlines_agree c.args.n c.args.value c.due_of.result c.due_of.ensures vacant) c.note-4.ensures.finds c.note-4.ensures.len c.note-4.ensures.room in
    rw c.put.ensures (put_slots g.V.Slotted.circuit g.V.Slotted.address g.V.Slotted.term g.V.Slotted.deadline c.self.inside.shard c.self.inside.shelf c.self.inside.vacancy.words c.self.inside.circuits c.self.inside.addresses c.self.inside.terms c.self.inside.deadlines c.self.invariant c.args.n c.in-Some.place c.in-Some.ensures.here.0 c.in-Some.ensures.here.1 c.args.value c.take.new.self.words c.note.new.self c.note-2.new.self c.note-3.new.self c.note-4.new.self c.take.ensures circuits addresses terms deadlines)

pub returns : goal.returns
returns g c = rw (← c.self.view_is, c.put.ensures) (ap (λ m. record { shard = c.self.inside.shard; by_number = m }) (put_map g.V.Slotted.circuit g.V.Slotted.address g.V.Slotted.term g.V.Slotted.deadline c.self.inside.shard c.self.inside.shelf c.self.inside.vacancy.words c.self.inside.circuits c.self.inside.addresses c.self.inside.terms c.self.inside.deadlines c.self.invariant c.args.n c.in-Some.place c.in-Some.ensures.here.0 c.in-Some.ensures.here.1 c.args.value))
