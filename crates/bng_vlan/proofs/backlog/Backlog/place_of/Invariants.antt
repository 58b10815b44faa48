use Rattle.std.proofs.Common.{◌≡◌, drop}
use Rattle.std.specs.List.{find}
use Rattle.bng_base.specs.Roles.{is_port}
use Rattle.bng_base.specs.declared.outside.Role.TheVariants.{Access}
use Rattle.bng_vlan.specs.declared.map.VlanEntry.{VlanEntry}
use Rattle.bng_vlan.proofs.backlog.Backlog.place_of.Given as goal

abbrev pub invariant-loop-place : goal.invariant-loop-place
invariant-loop-place l = find (λ (e : VlanEntry). is_port e.access (Access l.port)) l.self.entries.items ≡ find (λ (e : VlanEntry). is_port e.access (Access l.port)) (drop l.place l.self.entries.items)
