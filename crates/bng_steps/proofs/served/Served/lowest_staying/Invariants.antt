use Rattle.std.proofs.Common.{◌≡◌, ℕ, ◌<◌, ◌≤◌, Some, true}
use Rattle.bng_sessions.specs.Sessions.{value_at}
use Rattle.bng_steps.specs.declared.session.Session.{Session}
use Rattle.bng_steps.specs.State.{leaves}
use Rattle.bng_steps.proofs.served.Served.lowest_staying.Given as goal

abbrev pub invariant-loop-n : goal.invariant-loop-n
invariant-loop-n g l = (m : ℕ) (x : Session) → l.first ≤ m → m < l.n → value_at (g.S.Store.sessions l.self-inside.sessions) m ≡ Some x → leaves x ≡ true
