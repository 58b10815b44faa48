use Rattle.bng_round.proofs.Tellings.{is_told}
use Rattle.bng_round.proofs.telling.hear_one.Goals as goal

pub returns-clause-told : goal.returns-clause-told
returns-clause-told g c = is_told c.args.from.now c.args.shard.now c.hear.new.self c.hear.ensures.hold c.hear.ensures.learned c.hear.ensures.within
