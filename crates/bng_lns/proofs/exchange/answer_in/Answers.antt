use Rattle.bng_lns.proofs.Numbered.{keeps_place}
use Rattle.bng_lns.proofs.exchange.answer_in.Goals as goal

pub returns-clause-kept : goal.returns-clause-kept
returns-clause-kept c = λ number is. keeps_place c.args.place.now _ c.answer_by.ensures.lasting (λ t. c.answer_by.ensures.sound) number is
