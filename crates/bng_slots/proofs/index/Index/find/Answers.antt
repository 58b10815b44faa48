use Rattle.std.proofs.Common.{sym, ap, ◌∙◌, Some}
use Rattle.bng_sessions.proofs.Entries.{found_here, not_here}
use Rattle.bng_slots.proofs.index.Index.find.Goals as goal

pub returns-in-Ok : goal.returns-in-Ok
returns-in-Ok g c =
    let here = rw (← c.self.view_is) at c.in-Ok.ensures.here in
    rw (← c.self.view_is) (ap (λ e. Some e.1) c.index.ensures ∙ sym (found_here g.K.IndexKey.order g.met.K.IndexKey.total _ c.args.key.now c.self.invariant c.in-Ok.place here.0 here.1 c.index.result.now))

pub returns-in-Err : goal.returns-in-Err
returns-in-Err g c = sym (not_here g.K.IndexKey.order g.met.K.IndexKey.total _ _ c.in-Err.field-0 c.in-Err.ensures.bound c.in-Err.ensures.before c.in-Err.ensures.after)
