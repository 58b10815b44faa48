use Rattle.bng_ppp.proofs.LinkOuts.{link_steps_grant}
use Rattle.bng_ppp.proofs.LinkQuestions.{accepted_by_verdict}
use Rattle.bng_ppp.proofs.laws.yes_needs_a_verdict.Goals as goal

pub returns : goal.returns
returns c = record { said = link_steps_grant; accepted = accepted_by_verdict }
