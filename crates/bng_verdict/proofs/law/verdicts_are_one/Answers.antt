use Rattle.bng_verdict.proofs.One.{one_verdict}
use Rattle.bng_verdict.proofs.law.verdicts_are_one.Goals as goal

pub returns : goal.returns
returns c = one_verdict
