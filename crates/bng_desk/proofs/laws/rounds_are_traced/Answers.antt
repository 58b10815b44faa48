use Rattle.bng_desk.proofs.Traced.{round_is_traced}
use Rattle.bng_desk.proofs.laws.rounds_are_traced.Goals as goal

pub returns : goal.returns
returns c = round_is_traced
