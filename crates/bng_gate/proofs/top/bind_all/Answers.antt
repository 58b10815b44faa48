use Rattle.std.proofs.Common.{◌∙◌}
use Rattle.bng_gate.proofs.Binding.{coa_after, coa_fails}
use Rattle.bng_gate.proofs.top.bind_all.Goals as goal

pub returns-in-Ok-clause-bound : goal.returns-in-Ok-clause-bound
returns-in-Ok-clause-bound g c =
    let told = g.P.Plant.told in
    coa_after c.args.config.now c.coa_local.result (told c.args.plant.now) (told c.bind_tunnel.new.plant) (told c.bind_end.new.plant) c.coa_local.ensures c.in_default.ensures.bound (c.bind_end.ensures.bound c.in-Ok.is)

pub returns-in-Ok-clause-unfailed : goal.returns-in-Ok-clause-unfailed
returns-in-Ok-clause-unfailed g c = c.bind_end.ensures.unfailed c.in-Ok.is ∙ c.in_default.ensures.unfailed

pub returns-in-Failed-clause-failed : goal.returns-in-Failed-clause-failed
returns-in-Failed-clause-failed g c =
    let told = g.P.Plant.told in
    coa_fails c.args.config.now c.coa_local.result (told c.args.plant.now) (told c.bind_tunnel.new.plant) (told c.bind_end.new.plant) c.coa_local.ensures c.in_default.ensures.bound (c.bind_end.ensures.failed c.in-Failed.is)
