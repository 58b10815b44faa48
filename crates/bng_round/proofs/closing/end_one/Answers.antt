use Rattle.bng_round.proofs.Closings.{all_outside, ends_one}
use Rattle.bng_round.proofs.closing.end_one.Goals as goal

pub close-requires : goal.close-requires
close-requires g c = all_outside c.args.workers.now.items c.gather.new.workers.items c.gather.new.row.items c.args.turn c.gather.ensures c.requires.last c.requires.count

pub returns : goal.returns
returns g c = ends_one c.args.workers.now.items c.gather.new.workers.items c.gather.new.row.items c.args.turn c.gather.ensures c.requires.last c.requires.count c.close.result c.close.ensures.follows
