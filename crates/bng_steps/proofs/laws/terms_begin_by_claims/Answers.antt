use Rattle.bng_steps.proofs.ClaimedTerms.{step_by_claims}
use Rattle.bng_steps.proofs.laws.terms_begin_by_claims.Goals as goal

pub returns : goal.returns
returns c = step_by_claims
