use Rattle.bng_slots.proofs.ShelfLaws.{room_left, put_placed, put_shelf, within_keys}
use Rattle.bng_slots.proofs.shelf.Shelf.put.Goals as goal

pub insert_reserved-requires : goal.insert_reserved-requires
insert_reserved-requires g c =
    let within = rw (← c.self.view_is) at c.requires.within in
    let empty = rw (← c.self.view_is) at c.requires.empty in
    room_left c.self.inside.values c.self.inside.keys.items c.self.invariant c.args.place (within_keys c.self.inside.values c.self.inside.keys.items c.args.place within) empty

pub invariant_of-self : goal.invariant_of-self
invariant_of-self g c =
    let within = rw (← c.self.view_is) at c.requires.within in
    let empty = rw (← c.self.view_is) at c.requires.empty in
    let e = c.insert_reserved.ensures in
    put_shelf c.self.inside.values c.insert_reserved.new.self c.self.inside.keys.items c.self.invariant c.args.place (within_keys c.self.inside.values c.self.inside.keys.items c.args.place within) c.insert_reserved.result c.args.value e.was_vacant e.updates empty e.len e.capacity

pub returns : goal.returns
returns g c =
    let within = rw (← c.self.view_is) at c.requires.within in
    let empty = rw (← c.self.view_is) at c.requires.empty in
    let e = c.insert_reserved.ensures in
    rw (← c.self.view_is) (put_placed c.self.inside.values c.insert_reserved.new.self c.self.inside.keys.items c.self.invariant c.args.place (within_keys c.self.inside.values c.self.inside.keys.items c.args.place within) c.insert_reserved.result c.args.value e.was_vacant e.updates empty)
