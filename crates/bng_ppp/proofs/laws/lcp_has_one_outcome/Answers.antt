use Rattle.bng_ppp.proofs.OneOutcome.{steps_one}
use Rattle.bng_ppp.proofs.laws.lcp_has_one_outcome.Goals as goal

pub returns : goal.returns
returns c = steps_one
