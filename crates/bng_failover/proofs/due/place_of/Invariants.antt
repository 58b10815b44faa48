use Rattle.std.proofs.Common.{◌≡◌, ℕ, ◌<◌, Some}
use Rattle.std.specs.Prelude.{slice_get}
use Rattle.bng_failover.specs.declared.server.Server.{Server}
use Rattle.bng_failover.proofs.due.place_of.Given as goal

abbrev pub invariant-loop-at : goal.invariant-loop-at
invariant-loop-at l = (k : ℕ) (s : Server) → k < l.at → slice_get l.servers k ≡ Some s → ¬ (s.peer ≡ l.from)
