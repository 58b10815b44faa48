use Rattle.bng_slots.proofs.SlotLaws.{own_number}
use Rattle.bng_slots.proofs.slots.Slots.shard.Goals as goal

pub returns-clause-own : goal.returns-clause-own
returns-clause-own g c = rw (← c.self.view_is) (own_number c.self.inside.shard c.self.inside.shelf c.self.invariant.places)
