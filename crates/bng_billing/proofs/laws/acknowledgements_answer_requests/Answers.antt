use Rattle.bng_billing.proofs.Saying.{acknowledgement_of}
use Rattle.bng_billing.proofs.laws.acknowledgements_answer_requests.Goals as goal

pub returns : goal.returns
returns c = acknowledgement_of
