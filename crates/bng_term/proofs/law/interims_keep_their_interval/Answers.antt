use Rattle.bng_term.proofs.Interims.{interval_keeps, minute_keeps, taken_where_due, none_taken}
use Rattle.bng_term.proofs.law.interims_keep_their_interval.Goals as goal

pub returns-clause-apart : goal.returns-clause-apart
returns-clause-apart c = interval_keeps

pub returns-clause-minute : goal.returns-clause-minute
returns-clause-minute c = minute_keeps

pub returns-clause-due : goal.returns-clause-due
returns-clause-due c = taken_where_due

pub returns-clause-none : goal.returns-clause-none
returns-clause-none c = none_taken
