use Rattle.bng_steps.proofs.Silent.{moments_along, none_at_opening}
use Rattle.bng_steps.proofs.course.moments_are_of_packets.Goals as goal

pub returns-clause-along : goal.returns-clause-along
returns-clause-along c = moments_along

pub returns-clause-opened : goal.returns-clause-opened
returns-clause-opened c = none_at_opening
