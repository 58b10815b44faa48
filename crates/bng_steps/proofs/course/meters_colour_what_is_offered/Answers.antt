use Rattle.bng_steps.proofs.Colours.{opened_marks, renewed_marks}
use Rattle.bng_steps.proofs.course.meters_colour_what_is_offered.Goals as goal

pub returns-clause-renewed : goal.returns-clause-renewed
returns-clause-renewed c = renewed_marks

pub returns-clause-opened : goal.returns-clause-opened
returns-clause-opened c = opened_marks
