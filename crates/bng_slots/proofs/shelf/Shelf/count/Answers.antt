use Rattle.std.proofs.Common.{sym, ◌∙◌}
use Rattle.bng_slots.proofs.ShelfLaws.{count_placed}
use Rattle.bng_slots.proofs.shelf.Shelf.count.Goals as goal

pub returns : goal.returns
returns g c = rw (← c.self.view_is) (c.len.ensures ∙ c.self.invariant.counted ∙ sym (count_placed c.self.inside.values c.self.inside.keys.items c.self.invariant.leads))
