use Rattle.bng_ppp.proofs.LinkOutcome.{link_steps_one}
use Rattle.bng_ppp.proofs.laws.link_has_one_outcome.Goals as goal

pub returns : goal.returns
returns c = link_steps_one
