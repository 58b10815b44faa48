use Rattle.std.proofs.Common.{[], refl, ◌∙◌}
use Rattle.bng_base.specs.declared.settings.AccessPort.{AccessPort}
use Rattle.bng_gate.proofs.Binding.{port_more}
use Rattle.bng_gate.proofs.top.bind_ports.Goals as goal

pub loop-place-preserved : goal.loop-place-preserved
loop-place-preserved g c =
    let told = g.P.Plant.told in
    let none : AccessPort = record { local = record { ip = record { 0 = 0 }; port = 0 }; peer = record { ip = record { 0 = 0 }; port = 0 }; mac = record { 0 = [] } } in
    record {
      bound = port_more c.args.ports.now c.loop-place.place none (told c.args.plant.now) (told c.loop-place.plant) (told c.bind.new.self) c.loop-place-test.true c.loop-place.invariant.bound
          c.in-Ok.ensures.bound c.bind.ensures.heard c.bind.ensures.taken c.bind.ensures.sent c.bind.ensures.cause.later;
      unfailed = c.in-Ok.ensures.uncounted refl ∙ c.loop-place.invariant.unfailed;
    }
