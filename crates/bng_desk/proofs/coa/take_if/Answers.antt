use Rattle.bng_desk.specs.Coa.{replies_in}
use Rattle.bng_desk.proofs.CoaLaws.{coa_left, coa_taken}
use Rattle.bng_desk.proofs.coa.take_if.Goals as goal

pub returns-then-reads-clause-takes : goal.returns-then-reads-clause-takes
returns-then-reads-clause-takes g c =
    let told = g.P.Plant.told in
    coa_taken c.args.reads c.args.named.moment c.args.named.wall (told c.args.plant.now) (told c.take_requests.new.plant) c.args.coa.now c.take_requests.new.coa c.args.draws.now c.take_requests.new.draws c.args.lists.now.items.items c.take_requests.new.lists.items.items
    (replies_in c.args.lists.now.repeats.items) (replies_in c.take_requests.new.lists.repeats.items) c.take_requests.result c.if-reads.true c.take_requests.ensures.takes

pub returns-else-reads-clause-takes : goal.returns-else-reads-clause-takes
returns-else-reads-clause-takes g c =
    coa_left c.args.reads c.args.named.moment c.args.named.wall (g.P.Plant.told c.args.plant.now) c.args.coa.now c.args.draws.now c.args.lists.now.items.items (replies_in c.args.lists.now.repeats.items) c.if-reads.false
