use Rattle.std.proofs.Common.{◌≡◌, ℕ, [], length}
use Rattle.bng_vlan.specs.Waiting.{frames_at}
use Rattle.bng_vlan.proofs.backlog.queues.Given as goal

abbrev pub invariant-loop : goal.invariant-loop
invariant-loop l = record { size : length l.queues.items ≡ l.counter; empty : (i : ℕ) → frames_at i l.queues.items ≡ [] }
