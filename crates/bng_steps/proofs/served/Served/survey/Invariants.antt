use Rattle.std.proofs.Common.{◌≡◌, ◌+◌, ◌<◌, ◌≤◌, ℕ, Some, IfSome}
use Rattle.bng_sessions.specs.Sessions.{value_at}
use Rattle.bng_steps.specs.declared.session.Session.{Session}
use Rattle.bng_steps.specs.Interims.{interim_at}
use Rattle.bng_steps.proofs.served.Served.survey.Given as goal

-- none is due of the sessions so far, nor any before that moment
abbrev pub invariant-loop-n : goal.invariant-loop-n
invariant-loop-n g l = record {
  soon : l.until ≤ l.now + 60000;
  later : (m : ℕ) (x : Session) → l.first ≤ m → m < l.n → value_at l.self.sessions m ≡ Some x → IfSome (interim_at l.reports.last x) (λ at. (l.now < at) × (l.until ≤ at));
}
