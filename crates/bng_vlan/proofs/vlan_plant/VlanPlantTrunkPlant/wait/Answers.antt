use Rattle.std.proofs.Common.{refl}
use Rattle.bng_vlan.specs.Stretches.{waiting}
use Rattle.bng_vlan.specs.Views.{map_of, waiting_of}
use Rattle.bng_vlan.proofs.Passing.{passes_wait}
use Rattle.bng_vlan.proofs.vlan_plant.VlanPlantTrunkPlant.wait.Goals as goal

pub returns : goal.returns
returns g c = record {
  adds = (refl, refl, waiting c.args.ms, c.wait.ensures.adds, passes_wait (map_of c.args.self.now.backlog) (waiting_of c.args.self.now.backlog) c.args.ms);
}
