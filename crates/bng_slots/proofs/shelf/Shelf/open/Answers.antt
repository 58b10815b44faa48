use Rattle.std.proofs.Common.{rules, refl}
use Rattle.bng_slots.proofs.ShelfLaws.{placed_none}
use Rattle.bng_slots.proofs.shelf.Shelf.open.Goals as goal

pub returns : goal.returns
returns g c = rw (c.in_ok-keys.ensures.items_if_clones_equal (λ y k. search rules), placed_none) refl
