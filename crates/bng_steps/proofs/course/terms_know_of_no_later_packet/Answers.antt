use Rattle.bng_steps.proofs.Reckoning.{opened_reckons, settled_reckons, step_reckons}
use Rattle.bng_steps.proofs.course.terms_know_of_no_later_packet.Goals as goal

pub returns-clause-opened : goal.returns-clause-opened
returns-clause-opened c = opened_reckons

pub returns-clause-kept : goal.returns-clause-kept
returns-clause-kept c = step_reckons

pub returns-clause-settled : goal.returns-clause-settled
returns-clause-settled c = settled_reckons
