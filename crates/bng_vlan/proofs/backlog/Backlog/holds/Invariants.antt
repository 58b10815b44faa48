use Rattle.std.proofs.Common.{◌≡◌, ◌≤◌, length}
use Rattle.bng_vlan.specs.Waiting.{frames_at}
use Rattle.bng_vlan.proofs.Lists.{Below}
use Rattle.bng_vlan.proofs.backlog.Backlog.holds.Given as goal

abbrev pub invariant-loop-place : goal.invariant-loop-place
invariant-loop-place l = Below (λ k e. e.trunk ≡ l.trunk → length (frames_at k l.self.queues.items) ≤ 16) l.self.entries.items l.place
