use Rattle.std.proofs.Common.{sym, ◌∙◌}
use Rattle.bng_slots.proofs.SlotLaws.{counted}
use Rattle.bng_slots.proofs.slots.Slots.count.Goals as goal

pub returns-clause-used : goal.returns-clause-used
returns-clause-used g c = rw (← c.self.view_is) (c.count.ensures ∙ sym (counted c.self.inside.shard c.self.inside.shelf c.self.invariant.places))
