use Rattle.std.proofs.Common.{sym, ◌∙◌, ◌≡◌, get_or, Some, None, is_some, true, ap, refl}
use Rattle.std.proofs.lemmas.List.{get_or_default}
use Rattle.bng_slots.proofs.ShelfLaws.{nothing_taken, take_placed, take_shelf, within_keys, where_some}
use Rattle.bng_slots.proofs.shelf.Shelf.take.Given as given
use Rattle.bng_slots.proofs.shelf.Shelf.take.Goals as goal

pub returns-in_err-key-clause-after : goal.returns-in_err-key-clause-after
returns-in_err-key-clause-after g c =
    let within = within_keys c.self.inside.values c.self.inside.keys.items c.args.place (rw (← c.self.view_is) at c.requires.within) in
    let read = get_or_default c.self.inside.keys.items c.args.place None c.index_mut.result.now within ∙ sym c.index_mut.ensures.value ∙ sym c.take.ensures.value in
    let nothing = nothing_taken c.self.inside.values c.self.inside.keys.items c.args.place (read ∙ c.in_err-key.was) in
    rw (← c.self.view_is, c.take.ensures.after, nothing.0, nothing.1) refl

leads : (g : given.Over) (c : goal.After-try_remove g) → get_or c.self.inside.keys.items c.args.place None ≡ Some c.in_ok-key.key
leads g c =
    let within = within_keys c.self.inside.values c.self.inside.keys.items c.args.place (rw (← c.self.view_is) at c.requires.within) in
    get_or_default c.self.inside.keys.items c.args.place None c.index_mut.result.now within ∙ sym c.index_mut.ensures.value ∙ sym c.take.ensures.value ∙ c.in_ok-key.was

pub invariant_of-self-2 : goal.invariant_of-self-2
invariant_of-self-2 g c =
    let within = within_keys c.self.inside.values c.self.inside.keys.items c.args.place (rw (← c.self.view_is) at c.requires.within) in
    let e = c.try_remove.ensures in
    let some : is_some c.try_remove.result ≡ true = ap is_some e.value ∙ c.self.invariant.leads c.args.place c.in_ok-key.key (leads g c) in
    rw c.take.ensures.after (take_shelf c.self.inside.values c.try_remove.new.self c.self.inside.keys.items c.self.invariant c.args.place within c.in_ok-key.key (leads g c) e.updates (where_some c.try_remove.result _ some e.len) e.capacity)

pub returns-clause-after : goal.returns-clause-after
returns-clause-after g c =
    let within = within_keys c.self.inside.values c.self.inside.keys.items c.args.place (rw (← c.self.view_is) at c.requires.within) in
    rw (← c.self.view_is, c.take.ensures.after) (take_placed c.self.inside.values c.try_remove.new.self c.self.inside.keys.items c.self.invariant c.args.place within c.in_ok-key.key (leads g c) c.try_remove.ensures.updates)
