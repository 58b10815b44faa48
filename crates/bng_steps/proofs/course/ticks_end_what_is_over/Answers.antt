use Rattle.bng_steps.proofs.Overdue.{idle_justified, none_old, none_silent, session_justified}
use Rattle.bng_steps.proofs.Untimed.{untimed}
use Rattle.bng_steps.proofs.course.ticks_end_what_is_over.Goals as goal

pub returns-clause-idle : goal.returns-clause-idle
returns-clause-idle c = idle_justified

pub returns-clause-session : goal.returns-clause-session
returns-clause-session c = session_justified

pub returns-clause-none_silent : goal.returns-clause-none_silent
returns-clause-none_silent c s moment now n x l none at leased stays reckons = none_silent s now n x l none at leased stays (reckons.knows n x l at leased)

pub returns-clause-none_old : goal.returns-clause-none_old
returns-clause-none_old c s now n x l none at leased stays = none_old s now n x l none at leased stays

pub returns-clause-only : goal.returns-clause-only
returns-clause-only c = untimed
