use Rattle.std.proofs.Common.{sym, ◌∙◌}
use Rattle.bng_slots.proofs.SlotLaws.{at_place, outside}
use Rattle.bng_slots.proofs.slots.Slots.get.Goals as goal

pub returns-in_err-place : goal.returns-in_err-place
returns-in_err-place g c = rw (← c.self.view_is, c.from_residual.ensures) (sym (outside c.self.inside.shard c.self.inside.shelf c.self.invariant.places c.args.n.0 c.in_err-place.ensures.nowhere))

pub returns : goal.returns
returns g c = rw (← c.self.view_is) (c.get.ensures ∙ sym (at_place c.self.inside.shard c.self.inside.shelf c.self.invariant.places c.args.n.0 c.in_ok-place.place c.in_ok-place.ensures.here.1))
