use Rattle.std.proofs.Common.{arith}
use Rattle.bng_base.proofs.StretchLaws.{plant_stays}
use Rattle.bng_desk.proofs.CoaLaws.{them_given, them_more, them_none, them_told}
use Rattle.bng_desk.proofs.replies.answer_shards.Goals as goal

pub loop-shard-init : goal.loop-shard-init
loop-shard-init g c = let p = g.P.Plant.told c.args.plant.now in them_none c.args.shards.now p c.args.coa.now (plant_stays p)

pub loop-shard-preserved : goal.loop-shard-preserved
loop-shard-preserved g c =
    let told = g.P.Plant.told in
    them_more c.args.shards.now c.loop-shard.shards c.loop-shard.shard-index c.shard-item.result (told c.args.plant.now) (told c.loop-shard.plant) (told c.answer_shard.new.plant) c.args.coa.now c.loop-shard.coa c.answer_shard.new.coa
    c.loop-shard-test.true c.loop-shard.auto.shards c.answer_shard.new.shard c.loop-shard.invariant c.answer_shard.ensures.gives c.answer_shard.ensures.told

pub returns-clause-gives : goal.returns-clause-gives
returns-clause-gives g c =
    let told = g.P.Plant.told in
    them_given c.args.shards.now c.loop-shard.shards c.loop-shard.shard-index (told c.args.plant.now) (told c.loop-shard.plant) c.args.coa.now c.loop-shard.coa (omega arith) c.loop-shard.auto.shards c.loop-shard.invariant

pub returns-clause-told : goal.returns-clause-told
returns-clause-told g c =
    let told = g.P.Plant.told in
    them_told c.args.shards.now c.loop-shard.shards c.loop-shard.shard-index (told c.args.plant.now) (told c.loop-shard.plant) c.args.coa.now c.loop-shard.coa (omega arith) c.loop-shard.auto.shards c.loop-shard.invariant
