use Rattle.bng_verdict.proofs.One.{yes_accepts}
use Rattle.bng_verdict.proofs.law.yes_is_an_accept.Goals as goal

pub returns : goal.returns
returns c = yes_accepts
