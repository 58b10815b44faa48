use Rattle.bng_rad_client.specs.Due.{is_sought, IsOldestOrNone}
use Rattle.bng_rad_client.proofs.requests.oldest_of.Given as goal

abbrev pub invariant-loop-i : goal.invariant-loop-i
invariant-loop-i l = IsOldestOrNone (is_sought l.sought l.now) l.places l.i l.best
