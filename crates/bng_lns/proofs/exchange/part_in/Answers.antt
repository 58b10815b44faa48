use Rattle.bng_lns.proofs.Numbered.{keeps_place}
use Rattle.bng_lns.proofs.exchange.part_in.Goals as goal

pub returns-clause-kept : goal.returns-clause-kept
returns-clause-kept c = λ number is. keeps_place c.args.place.now _ c.part_by.ensures.lasting (λ t. c.part_by.ensures.sound) number is
