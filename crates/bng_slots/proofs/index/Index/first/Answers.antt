use Rattle.bng_sessions.proofs.Entries.{first_of_all}
use Rattle.bng_slots.proofs.index.Index.first.Goals as goal

pub returns-clause-least : goal.returns-clause-least
returns-clause-least g c = rw (← c.self.view_is, ← c.deref.ensures.value) (first_of_all g.K.IndexKey.order g.met.K.IndexKey.total c.deref.result.now c.in_ok-entry.entry.now (rw c.deref.ensures.value c.self.invariant) c.in_ok-entry.ensures.value)
