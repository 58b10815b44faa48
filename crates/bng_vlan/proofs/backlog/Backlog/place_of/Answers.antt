use Rattle.std.proofs.Common.{◌<◌, length, eq-eqb, sym, arith}
use Rattle.bng_base.specs.Roles.{is_port}
use Rattle.bng_base.specs.declared.outside.Role.TheVariants.{Access}
use Rattle.bng_vlan.specs.declared.map.VlanEntry.{VlanEntry}
use Rattle.bng_vlan.proofs.Lists.{found_place}
use Rattle.bng_vlan.proofs.backlog.Backlog.place_of.Goals as goal

pub returns-then-e-port-clause-found : goal.returns-then-e-port-clause-found
returns-then-e-port-clause-found c =
    let inside : c.loop-place.place < length c.args.self.now.entries.items = omega arith in (
      found_place (λ (e : VlanEntry). is_port e.access (Access c.args.port)) c.args.self.now.entries.items c.deref-e-items.result.now c.loop-place.place _ c.deref-e-items.ensures.value c.loop-place.invariant c.loop-place-test.true (eq-eqb _ _ (sym c.if-e-port.true)),
      inside,
    )
