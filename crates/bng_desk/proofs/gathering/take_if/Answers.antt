use Rattle.bng_desk.proofs.GatherLaws.{auth_left, auth_taken}
use Rattle.bng_desk.proofs.gathering.take_if.Goals as goal

pub returns-then-reads-clause-takes : goal.returns-then-reads-clause-takes
returns-then-reads-clause-takes g c =
    let told = g.P.Plant.told in
    auth_taken c.args.reads (told c.args.plant.now) (told c.take_replies.new.plant) c.args.lane.now c.take_replies.new.lane c.args.draws.now c.take_replies.new.draws c.args.items.now.items c.take_replies.new.items.items c.take_replies.result c.if-reads.true c.take_replies.ensures.takes

pub returns-else-reads-clause-takes : goal.returns-else-reads-clause-takes
returns-else-reads-clause-takes g c =
    auth_left c.args.reads (g.P.Plant.told c.args.plant.now) c.args.lane.now c.args.draws.now c.args.items.now.items c.if-reads.false
