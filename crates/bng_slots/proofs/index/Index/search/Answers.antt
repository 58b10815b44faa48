use Rattle.std.proofs.Common.{rules, of_calls}
use Rattle.std.proofs.lemmas.Fn.{always_returns_same}
use Rattle.bng_sessions.proofs.Entries.{searched}
use Rattle.bng_slots.proofs.index.Index.search.Goals as goal

-- the closure compares an entry's key with the one that is sought
pub returns : goal.returns
returns g c =
    let facts = c.binary_search_by.ensures in
    let by_key = facts.position (λ e. g.K.IndexKey.order e.0 c.args.key.now) (always_returns_same _ _ _ (λ a r h called. search (rules, of_calls))) in
    let s = searched g.K.IndexKey.order g.met.K.IndexKey.total c.deref.result.now c.args.key.now _ (rw c.deref.ensures.value c.self.invariant) facts.bound by_key in
    rw (← c.self.view_is, ← c.deref.ensures.value) record { here = s.here; bound = s.bound; before = s.before; after = s.after }
