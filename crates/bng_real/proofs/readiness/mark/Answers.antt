use Rattle.std.proofs.Common.{subst}
use Rattle.std.proofs.lemmas.Iterator.{YieldsList-from_slice}
use Rattle.std.proofs.lemmas.Iterator.Consumers.{YieldsList-end}
use Rattle.std.specs.List.{All}
use Rattle.mio.specs.Events.{items}
use Rattle.bng_real.specs.Readiness.{IsReady}
use Rattle.bng_real.proofs.readiness.mark.Goals as goal

-- in the end the loop has gone over all events
pub returns-clause-named : goal.returns-clause-named
returns-clause-named c =
    let seen = YieldsList-end (YieldsList-from_slice (items c.args.events.now) c.into_iter-event-iterator.ensures.into_iter_gives.0) c.loop-event.yielded _ c.loop-event.yielded_by _ _ c.in-None.is c.next.ensures.steps in
    subst (All (IsReady c.loop-event.ready)) seen.0 c.loop-event.invariant.1
