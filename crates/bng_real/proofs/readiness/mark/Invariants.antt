use Rattle.std.proofs.Common.{map}
use Rattle.std.specs.List.{All}
use Rattle.bng_real.specs.Readiness.{StaysReady, IsReady}
use Rattle.bng_real.proofs.readiness.mark.Given as goal

-- what was ready is ready still, and so is what the events so far name
abbrev pub invariant-loop-event : goal.invariant-loop-event
invariant-loop-event l = StaysReady l.fn.ready l.ready × All (IsReady l.ready) (map (λ e. e.now) l.yielded)
