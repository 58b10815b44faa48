use Rattle.bng_steps.proofs.TermYeses.{step_by_yeses}
use Rattle.bng_steps.proofs.laws.terms_begin_by_yeses.Goals as goal

pub returns : goal.returns
returns c r s limited d began step sound news = step_by_yeses r s limited d sound began news step
