use Rattle.bng_billing.proofs.Saying.{says_first, says_again}
use Rattle.bng_billing.proofs.laws.requests_say_their_records.Goals as goal

pub returns-clause-first : goal.returns-clause-first
returns-clause-first c = says_first

pub returns-clause-again : goal.returns-clause-again
returns-clause-again c = says_again
