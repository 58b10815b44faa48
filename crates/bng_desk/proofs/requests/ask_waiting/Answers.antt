use Rattle.std.proofs.Common.{List, length, refl, sym, ap, arith}
use Rattle.bng_base.proofs.StretchLaws.{plant_stays}
use Rattle.bng_lane.specs.Sends.{LaneAsk}
use Rattle.bng_steps.specs.Questions.{Asking, asking_from, waiting}
use Rattle.bng_desk.specs.Random.{draw}
use Rattle.bng_desk.proofs.RequestLaws.{asked_more, asked_none, waits_first}
use Rattle.bng_desk.proofs.requests.ask_waiting.Goals as goal

pub loop-handed-init : goal.loop-handed-init
loop-handed-init g c = asked_none c.args.now c.args.shard.now.number c.args.shard.now.state.slots (g.P.Plant.told c.args.plant.now) c.args.lane.now c.args.handed.now c.args.draws.now (plant_stays (g.P.Plant.told c.args.plant.now))

pub loop-handed-smaller : goal.loop-handed-smaller
loop-handed-smaller g c =
    let slots = c.args.shard.now.state.slots in
    let first = waits_first (waiting slots c.loop-handed.handed) (waiting slots c.asked.new.handed) (asking_from c.in-Some.ask) (sym c.in-Some.ensures.first) c.in-Some.ensures.rest in
    omega (arith, ap (λ (asks : List Asking). length asks) first)

pub loop-handed-preserved : goal.loop-handed-preserved
loop-handed-preserved g c =
    let told = g.P.Plant.told in
    let slots = c.args.shard.now.state.slots in
    let one = c.ask_one.ensures in
    let a : LaneAsk = record { ask = c.in-Some.ask; authenticator = draw c.loop-handed.draws.seed c.loop-handed.draws.drawn; send = one.send } in
    let first = waits_first (waiting slots c.loop-handed.handed) (waiting slots c.asked.new.handed) (asking_from c.in-Some.ask) (sym c.in-Some.ensures.first) c.in-Some.ensures.rest in
    asked_more c.args.now c.args.shard.now.number slots (told c.args.plant.now) (told c.loop-handed.plant) (told c.ask_one.new.plant) c.args.lane.now c.loop-handed.lane one.made c.ask_one.new.lane
    c.args.handed.now c.loop-handed.handed c.asked.new.handed c.args.draws.now c.loop-handed.draws c.ask_one.new.draws a c.loop-handed.invariant one.asked one.noted_is (c.loop-handed-test.ensures.0 refl)
    first c.in-Some.ensures.handed c.in-Some.ensures.own refl one.draws_are one.told
