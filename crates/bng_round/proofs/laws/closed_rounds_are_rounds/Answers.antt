use Rattle.bng_round.proofs.Was.{was_round}
use Rattle.bng_round.proofs.laws.closed_rounds_are_rounds.Goals as goal

pub returns : goal.returns
returns c = was_round
