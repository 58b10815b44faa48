use Rattle.std.proofs.Common.{ℕ, ◌≤◌, ◌<◌, IsSome}
use Rattle.bng_sessions.specs.Sessions.{value_at}
use Rattle.bng_steps_tests.proofs.plain.PlainStore.vacant.Given as goal

abbrev pub invariant-loop-n : goal.invariant-loop-n
invariant-loop-n l = (m : ℕ) → l.first ≤ m → m < l.n → IsSome (value_at l.self m)
