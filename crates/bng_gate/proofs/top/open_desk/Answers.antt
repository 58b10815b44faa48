use Rattle.bng_gate.proofs.Binding.{is_bound}
use Rattle.bng_gate.proofs.Pooling.{pool_ranges, pooled}
use Rattle.bng_gate.proofs.top.open_desk.Goals as goal

pub open-requires-clause-pools : goal.open-requires-clause-pools
open-requires-clause-pools g c = pool_ranges c.args.config c.requires.rules

pub open-requires-clause-within : goal.open-requires-clause-within
open-requires-clause-within g c = pooled c.args.config c.requires.rules

pub returns-in-Ok-clause-opened : goal.returns-in-Ok-clause-opened
returns-in-Ok-clause-opened g c =
    let plant = g.P.Plant.told in
    let clock = g.C.Clock.told in
    record {
      bound = is_bound c.args.config (plant c.args.plant.now) (plant c.bind_all.new.plant) (clock c.args.clock.now) (clock c.now-now.new.self) (clock c.wall-wall.new.self) c.now-now.result c.wall-wall.result
          c.in_default.ensures.bound c.in_default.ensures.unfailed c.now-now.ensures.answers c.wall-wall.ensures.answers c.now-now.ensures.last c.wall-wall.ensures.last;
      is_opened = c.in-Ok.ensures;
    }

pub returns-in-Err-OutOfMemory-clause-refused : goal.returns-in-Err-OutOfMemory-clause-refused
returns-in-Err-OutOfMemory-clause-refused g c =
    let plant = g.P.Plant.told in
    let clock = g.C.Clock.told in
    is_bound c.args.config (plant c.args.plant.now) (plant c.bind_all.new.plant) (clock c.args.clock.now) (clock c.now-now.new.self) (clock c.wall-wall.new.self) c.now-now.result c.wall-wall.result
    c.in_default.ensures.bound c.in_default.ensures.unfailed c.now-now.ensures.answers c.wall-wall.ensures.answers c.now-now.ensures.last c.wall-wall.ensures.last
