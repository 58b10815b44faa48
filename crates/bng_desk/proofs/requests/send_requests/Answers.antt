use Rattle.std.proofs.Common.{◌≡◌, ◌<◌, [], length, get_or, set, refl, ap, ◌∙◌, arith}
use Rattle.std.proofs.lemmas.List.{get_or_default}
use Rattle.bng_base.proofs.StretchLaws.{plant_stays}
use Rattle.bng_desk.specs.Random.{Drawn}
use Rattle.bng_desk.proofs.RequestLaws.{asked_next, none_asked, requests_sent}
use Rattle.bng_desk.proofs.requests.send_requests.Goals as goal

pub loop-place-init : goal.loop-place-init
loop-place-init g c = let p = g.P.Plant.told c.send_again.new.plant in none_asked c.args.now c.args.shards.now p c.send_again.new.lane c.args.handed.now c.args.draws.now (plant_stays p)

pub returns-clause-sends : goal.returns-clause-sends
returns-clause-sends g c =
    let told = g.P.Plant.told in
    let every : c.loop-place.place ≡ length c.args.shards.now = omega arith in
    requests_sent c.args.now c.loop-place.place c.args.shards.now (told c.args.plant.now) (told c.send_again.new.plant) (told c.loop-place.plant) c.args.lane.now c.send_again.new.lane c.loop-place.lane c.args.handed.now c.loop-place.handed c.args.draws.now c.loop-place.draws every c.send_again.ensures c.loop-place.invariant

pub returns-clause-few_drawn : goal.returns-clause-few_drawn
returns-clause-few_drawn g c = omega (arith, c.loop-place.invariant.few, ap (λ (d : Drawn). d.drawn) c.loop-place.invariant.draws_are)

pub returns-clause-count : goal.returns-clause-count
returns-clause-count g c = c.loop-place.invariant.count ∙ c.requires.count

pub loop-place-preserved : goal.loop-place-preserved
loop-place-preserved g c =
    let told = g.P.Plant.told in
    let so_far = c.loop-place.invariant in
    let k = c.loop-place.place in
    let v = c.index-shards-place.result in
    let d = c.index-handed-place.result in
    let h = get_or c.loop-place.handed k d in
    let within : k < length c.loop-place.handed = omega (arith, so_far.count, c.requires.count, c.loop-place-test.true) in
    asked_next c.args.now k c.args.shards.now v (told c.send_again.new.plant) (told c.loop-place.plant) (told c.ask_all.new.plant) c.send_again.new.lane c.loop-place.lane c.ask_all.new.lane
    c.args.handed.now c.loop-place.handed (set c.loop-place.handed k c.ask_all.new.handed) h c.ask_all.new.handed c.args.draws.now c.loop-place.draws c.ask_all.new.draws
    c.loop-place-test.true c.requires.count c.requires.numbers c.index-shards-place.is (get_or_default c.loop-place.handed k d [] within) refl so_far c.ask_all.ensures
