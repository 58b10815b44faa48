use Rattle.bng_grant.proofs.One.{one_grant}
use Rattle.bng_grant.proofs.law.grants_are_one.Goals as goal

pub returns : goal.returns
returns c = one_grant
