use Rattle.std.proofs.Common.{refl}
use Rattle.bng_base.proofs.StretchLaws.{plant_stays}
use Rattle.bng_desk.proofs.RecordLaws.{all_given, fewer_wait, given_more, given_none}
use Rattle.bng_desk.proofs.records.give_all.Goals as goal

pub returns-then-not-waits : goal.returns-then-not-waits
returns-then-not-waits g c =
    let p = g.P.Plant.told c.args.plant.now in
    let b = c.args.billing.now in
    all_given c.args.now p p b b b (given_none c.args.now p b (plant_stays p)) (c.if-not-waits.ensures.0 refl) refl

pub loop-number-init : goal.loop-number-init
loop-number-init g c = let p = g.P.Plant.told c.args.plant.now in given_none c.args.now p c.args.billing.now (plant_stays p)

pub loop-number-preserved : goal.loop-number-preserved
loop-number-preserved g c =
    let told = g.P.Plant.told in
    given_more c.args.now c.in-Some._number.0 c.in-Some.id c.in-Some.request.payload c.send_one-sent.result (told c.args.plant.now) (told c.loop-number.plant) (told c.send_one-sent.new.plant) c.args.billing.now c.loop-number.billing c.send.new.self c.send_one-sent.new.billing
    c.loop-number.invariant c.in-Some.ensures.sent c.send_one-sent.ensures.noted c.send_one-sent.ensures.told

pub loop-number-smaller : goal.loop-number-smaller
loop-number-smaller g c = fewer_wait c.args.now c.in-Some._number.0 c.in-Some.id c.in-Some.request.payload c.send_one-sent.result c.loop-number.billing c.send.new.self c.send_one-sent.new.billing c.in-Some.ensures.sent c.send_one-sent.ensures.noted

pub returns : goal.returns
returns g c =
    let told = g.P.Plant.told in
    all_given c.args.now (told c.args.plant.now) (told c.loop-number.plant) c.args.billing.now c.loop-number.billing c.send.new.self c.loop-number.invariant (c.send.ensures.none.0 c.in_default.is) c.in_default.ensures.kept
