use Rattle.std.proofs.Common.{◌≡◌, None, replicate}
use Rattle.bng_rad_client.proofs.requests.Requests.open.Given as goal

abbrev pub invariant-loop : goal.invariant-loop
invariant-loop l = l.places.items ≡ replicate l.counter None
