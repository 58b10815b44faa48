use Rattle.bng_base.proofs.StretchLaws.{plant_stays}
use Rattle.bng_desk.proofs.CoaLaws.{first_all, first_fewer, first_more, first_none, first_told}
use Rattle.bng_desk.proofs.replies.answer_shard.Goals as goal

pub loop-ask-init : goal.loop-ask-init
loop-ask-init g c = let p = g.P.Plant.told c.args.plant.now in first_none c.args.shard.now p c.args.coa.now (plant_stays p)

pub loop-ask-smaller : goal.loop-ask-smaller
loop-ask-smaller g c = first_fewer c.args.shard.now c.loop-ask.shard c.changed.new.self c.changed.ensures.after c.in-Some.ask c.in-Some.verdict c.in-Some.ensures.first

pub loop-ask-preserved : goal.loop-ask-preserved
loop-ask-preserved g c =
    let told = g.P.Plant.told in
    first_more c.args.shard.now c.loop-ask.shard c.changed.new.self c.changed.ensures.after c.in-Some.ask c.in-Some.verdict c.in-Some.ensures.first (told c.args.plant.now) (told c.loop-ask.plant) (told c.answer_one.new.plant) c.args.coa.now c.loop-ask.coa c.answer_one.new.coa
    c.loop-ask.invariant c.answer_one.ensures

pub returns-clause-gives : goal.returns-clause-gives
returns-clause-gives g c =
    let told = g.P.Plant.told in
    first_all c.args.shard.now c.loop-ask.shard c.changed.new.self c.changed.ensures.after c.in_default.ensures.first (told c.args.plant.now) (told c.loop-ask.plant) c.args.coa.now c.loop-ask.coa c.loop-ask.invariant

pub returns-clause-told : goal.returns-clause-told
returns-clause-told g c =
    let told = g.P.Plant.told in
    first_told c.args.shard.now c.loop-ask.shard c.changed.new.self c.changed.ensures.after c.in_default.ensures.first (told c.args.plant.now) (told c.loop-ask.plant) c.args.coa.now c.loop-ask.coa c.loop-ask.invariant
