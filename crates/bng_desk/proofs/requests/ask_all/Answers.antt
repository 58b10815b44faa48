use Rattle.std.proofs.Common.{inl, refl}
use Rattle.bng_base.proofs.StretchLaws.{plant_stays}
use Rattle.bng_desk.proofs.RequestLaws.{asked_none}
use Rattle.bng_desk.proofs.requests.ask_all.Goals as goal

pub returns-then-not-has_open : goal.returns-then-not-has_open
returns-then-not-has_open g c =
    let p = g.P.Plant.told c.args.plant.now in (
      asked_none c.args.now c.args.shard.now.number c.args.shard.now.state.slots p c.args.lane.now c.args.handed.now c.args.draws.now (plant_stays p),
      inl (c.if-not-has_open.ensures.none refl c.args.handed.now),
    )
