use Rattle.bng_steps.proofs.ClaimLaws.{step_heard, step_same}
use Rattle.bng_steps.proofs.laws.questions_are_heard.Goals as goal

pub returns-clause-heard : goal.returns-clause-heard
returns-clause-heard c r s limited d h sound = step_heard r s limited d sound h

pub returns-clause-same : goal.returns-clause-same
returns-clause-same c = step_same
