use Rattle.std.proofs.Common.{rules}
use Rattle.bng_sessions.proofs.Entries.{found_some, insert_leaves, Inserted}
use Rattle.bng_slots.proofs.index.Index.insert.Given as given
use Rattle.bng_slots.proofs.index.Index.insert.Goals as goal

pub unreachable-requires : goal.unreachable-requires
unreachable-requires g c =
    let here = rw (← c.self.view_is) at c.in-Ok.ensures.here in
    let absent = rw (← c.self.view_is) at c.requires.absent in
    found_some g.K.IndexKey.order g.met.K.IndexKey.total _ c.args.key c.self.invariant c.in-Ok.field-0 here.0 here.1 absent

leaves : (g : given.Over) (c : goal.After-insert g) → Inserted g.K.IndexKey.order g.met.K.IndexKey.total c.self.inside.entries.items c.insert.new.self.items c.args.key c.args.session
leaves g c =
    let bound = rw (← c.self.view_is) at c.in-Err.ensures.bound in
    let before = rw (← c.self.view_is) at c.in-Err.ensures.before in
    let after = rw (← c.self.view_is) at c.in-Err.ensures.after in
    let items = rw (c.insert.ensures.succeeds (search rules)) at c.insert.ensures.items in
    rw items (insert_leaves g.K.IndexKey.order g.met.K.IndexKey.total _ c.args.key c.args.session c.in-Err.place c.self.invariant bound before after)

pub invariant_of-self : goal.invariant_of-self
invariant_of-self g c = (leaves g c).sorted

pub returns-clause-finds : goal.returns-clause-finds
returns-clause-finds g c = rw (← c.self.view_is) (leaves g c).finds
