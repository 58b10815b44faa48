use Rattle.bng_desk.specs.Coa.{replies_in}
use Rattle.bng_desk.proofs.CoaLaws.{replies_sent}
use Rattle.bng_desk.proofs.replies.send_replies.Goals as goal

pub returns : goal.returns
returns g c =
    let told = g.P.Plant.told in
    replies_sent c.args.rules.now (replies_in c.args.repeats.now) c.args.loose.now c.args.shards.now c.answer_shards.new.shards (told c.args.plant.now) (told c.repeat_all.new.plant) (told c.answer_loose.new.plant) (told c.answer_shards.new.plant)
    c.args.coa.now c.answer_loose.new.coa c.answer_shards.new.coa c.repeat_all.ensures c.answer_loose.ensures c.answer_shards.ensures.gives c.answer_shards.ensures.told
