use Rattle.bng_steps.proofs.Spacing.{apart, due, none, others}
use Rattle.bng_steps.proofs.course.interims_keep_their_interval.Goals as goal

pub returns-clause-apart : goal.returns-clause-apart
returns-clause-apart c x l seconds last moments leased long is = apart x l leased seconds last moments long is

pub returns-clause-due : goal.returns-clause-due
returns-clause-due c x l seconds now last moments leased long is = due x l leased seconds now last moments long is

pub returns-clause-none : goal.returns-clause-none
returns-clause-none c x l last moments leased long is = none x l leased last moments long is

pub returns-clause-others : goal.returns-clause-others
returns-clause-others c = others
