use Rattle.bng_gate.proofs.Binding.{no_end, none_bound, one_end}
use Rattle.bng_gate.proofs.top.bind_end.Goals as goal

pub returns-in_default-clause-bound : goal.returns-in_default-clause-bound
returns-in_default-clause-bound g c = λ ok. no_end c.args.role c.args.end (g.P.Plant.told c.args.plant.now) c.in_default.is

pub returns-clause-bound : goal.returns-clause-bound
returns-clause-bound g c = λ ok.
    let told = g.P.Plant.told in
    one_end c.args.role c.args.end c.in-Some.local c.bind.result (told c.args.plant.now) (told c.bind.new.self) c.in-Some.is ok c.bind.ensures.bound c.bind.ensures.heard c.bind.ensures.taken c.bind.ensures.sent c.bind.ensures.cause.later

pub returns-clause-failed : goal.returns-clause-failed
returns-clause-failed g c = λ failed.
    let told = g.P.Plant.told in
    none_bound c.args.role c.args.end c.in-Some.local c.bind.result (told c.args.plant.now) (told c.bind.new.self) c.in-Some.is failed c.bind.ensures.bound c.bind.ensures.heard c.bind.ensures.taken c.bind.ensures.sent
    c.bind.ensures.cause.later (c.bind.ensures.cause.cause failed)
