use Rattle.bng_slots.specs.Orders.{term_order}
use Rattle.bng_slots.proofs.SlotLaws.{leads_nowhere}
use Rattle.bng_slots.proofs.slots.Slots.by_term.Goals as goal

pub returns-clause-none : goal.returns-clause-none
returns-clause-none g c = rw (← c.self.view_is, c.find.ensures) (leads_nowhere term_order g.V.Slotted.term _ c.self.inside.terms c.self.invariant.terms_agree c.args.term.now)
