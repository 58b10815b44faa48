use Rattle.std.proofs.Common.{◌+◌, length}
use Rattle.bng_gate.proofs.Binding.{acct_after, next_fails}
use Rattle.bng_gate.proofs.top.bind_acct.Goals as goal

pub returns-in-Ok-clause-bound : goal.returns-in-Ok-clause-bound
returns-in-Ok-clause-bound g c =
    let told = g.P.Plant.told in
    acct_after c.args.config.now (told c.args.plant.now) (told c.bind_access.new.plant) (told c.bind.new.self)
    c.in_default.ensures.bound c.in-Ok.ensures.bound c.bind.ensures.heard c.bind.ensures.taken c.bind.ensures.sent c.bind.ensures.cause.later

pub returns-in-Failed-clause-failed : goal.returns-in-Failed-clause-failed
returns-in-Failed-clause-failed g c =
    let told = g.P.Plant.told in
    next_fails c.args.config.now (3 + length c.args.config.now.access) (told c.args.plant.now) (told c.bind_access.new.plant) (told c.bind.new.self)
    c.in_default.ensures.bound c.in-Failed.ensures.bound c.bind.ensures.heard c.bind.ensures.taken c.bind.ensures.sent c.bind.ensures.cause.later (c.bind.ensures.cause.cause c.in-Failed.is)
