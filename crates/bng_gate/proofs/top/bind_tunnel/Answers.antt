use Rattle.std.proofs.Common.{◌∙◌}
use Rattle.bng_gate.proofs.Binding.{tunnel_after, tunnel_fails}
use Rattle.bng_gate.proofs.top.bind_tunnel.Goals as goal

pub returns-in-Ok-clause-bound : goal.returns-in-Ok-clause-bound
returns-in-Ok-clause-bound g c =
    let told = g.P.Plant.told in
    tunnel_after c.args.config.now (told c.args.plant.now) (told c.bind_acct.new.plant) (told c.bind_end.new.plant) c.in_default.ensures.bound (c.bind_end.ensures.bound c.in-Ok.is)

pub returns-in-Ok-clause-unfailed : goal.returns-in-Ok-clause-unfailed
returns-in-Ok-clause-unfailed g c = c.bind_end.ensures.unfailed c.in-Ok.is ∙ c.in_default.ensures.unfailed

pub returns-in-Failed-clause-failed : goal.returns-in-Failed-clause-failed
returns-in-Failed-clause-failed g c =
    let told = g.P.Plant.told in
    tunnel_fails c.args.config.now (told c.args.plant.now) (told c.bind_acct.new.plant) (told c.bind_end.new.plant) c.in_default.ensures.bound (c.bind_end.ensures.failed c.in-Failed.is)
