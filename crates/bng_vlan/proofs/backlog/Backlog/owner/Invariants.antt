use Rattle.std.proofs.Common.{◌≡◌, false, ◌&&◌, ◌==◌}
use Rattle.bng_vlan.specs.Frames.{has_tags}
use Rattle.bng_vlan.proofs.Lists.{Below}
use Rattle.bng_vlan.proofs.backlog.Backlog.owner.Given as goal

abbrev pub invariant-loop-place : goal.invariant-loop-place
invariant-loop-place l = Below (λ k e. ((e.trunk == l.trunk) && has_tags e l.tags) ≡ false) l.self.entries.items l.place
