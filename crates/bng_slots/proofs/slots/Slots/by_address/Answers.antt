use Rattle.bng_slots.specs.Orders.{address_order}
use Rattle.bng_slots.proofs.SlotLaws.{leads_nowhere}
use Rattle.bng_slots.proofs.slots.Slots.by_address.Goals as goal

pub returns-clause-none : goal.returns-clause-none
returns-clause-none g c = rw (← c.self.view_is, c.find.ensures) (leads_nowhere address_order g.V.Slotted.address _ c.self.inside.addresses c.self.invariant.addresses_agree c.args.address)
