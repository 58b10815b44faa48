use Rattle.bng_slots.specs.Orders.{circuit_order}
use Rattle.bng_slots.proofs.SlotLaws.{leads_nowhere}
use Rattle.bng_slots.proofs.slots.Slots.by_circuit.Goals as goal

pub returns-clause-none : goal.returns-clause-none
returns-clause-none g c = rw (← c.self.view_is, c.find.ensures) (leads_nowhere circuit_order g.V.Slotted.circuit _ c.self.inside.circuits c.self.invariant.circuits_agree c.args.circuit.now)
