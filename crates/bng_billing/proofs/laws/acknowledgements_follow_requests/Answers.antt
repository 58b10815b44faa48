use Rattle.bng_billing.proofs.Following.{answers_of}
use Rattle.bng_billing.proofs.laws.acknowledgements_follow_requests.Goals as goal

pub returns : goal.returns
returns c = answers_of
