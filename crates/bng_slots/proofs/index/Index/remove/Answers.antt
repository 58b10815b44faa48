use Rattle.bng_sessions.proofs.Entries.{not_here, remove_leaves, nothing_leaves, Removed}
use Rattle.bng_slots.proofs.index.Index.remove.Given as given
use Rattle.bng_slots.proofs.index.Index.remove.Goals as goal

leaves : (g : given.Over) (c : goal.After-remove g) → Removed g.K.IndexKey.order g.met.K.IndexKey.total c.self.inside.entries.items c.remove.new.self.items c.args.key.now
leaves g c =
    let here = rw (← c.self.view_is) at c.in-Ok.ensures.here in
    rw c.remove.ensures.items (remove_leaves g.K.IndexKey.order g.met.K.IndexKey.total _ c.args.key.now c.in-Ok.place c.self.invariant here.0 here.1)

nothing : (g : given.Over) (c : goal.In_default g) → Removed g.K.IndexKey.order g.met.K.IndexKey.total c.self.inside.entries.items c.self.inside.entries.items c.args.key.now
nothing g c =
    let bound = rw (← c.self.view_is) at c.in_default.ensures.bound in
    let before = rw (← c.self.view_is) at c.in_default.ensures.before in
    let after = rw (← c.self.view_is) at c.in_default.ensures.after in
    nothing_leaves g.K.IndexKey.order g.met.K.IndexKey.total _ c.args.key.now c.self.invariant (not_here g.K.IndexKey.order g.met.K.IndexKey.total _ _ c.in_default.field-0 bound before after)

pub invariant_of-self : goal.invariant_of-self
invariant_of-self g c = (leaves g c).sorted

pub returns-in-Ok-clause-finds : goal.returns-in-Ok-clause-finds
returns-in-Ok-clause-finds g c = rw (← c.self.view_is) (leaves g c).finds

pub returns-in-Ok-clause-len : goal.returns-in-Ok-clause-len
returns-in-Ok-clause-len g c = rw (← c.self.view_is) (leaves g c).len

pub returns-in_default-clause-finds : goal.returns-in_default-clause-finds
returns-in_default-clause-finds g c = rw (← c.self.view_is) (nothing g c).finds

pub returns-in_default-clause-len : goal.returns-in_default-clause-len
returns-in_default-clause-len g c = rw (← c.self.view_is) (nothing g c).len
