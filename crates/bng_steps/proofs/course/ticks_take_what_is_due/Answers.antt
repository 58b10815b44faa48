use Rattle.bng_steps.proofs.Ticking.{tick_through}
use Rattle.bng_steps.proofs.course.ticks_take_what_is_due.Goals as goal

pub returns : goal.returns
returns c = tick_through
