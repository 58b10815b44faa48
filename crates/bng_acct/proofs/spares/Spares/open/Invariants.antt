use Rattle.std.proofs.Common.{◌≡◌, ◌≤◌}
use Rattle.std.specs.Prelude.{vec_len, vec_capacity}
use Rattle.bng_acct.proofs.spares.Spares.open.Given as goal

abbrev pub invariant-loop : goal.invariant-loop
invariant-loop l = (vec_len l.boxes ≡ l.counter) × (l.room ≤ vec_capacity l.boxes)
