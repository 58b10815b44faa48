use Rattle.bng_steps.proofs.Clearing.{message_clears, reminder_clears}
use Rattle.bng_steps.proofs.laws.cleared_tunnels_leave_no_calls.Goals as goal

pub returns-clause-heard : goal.returns-clause-heard
returns-clause-heard c = message_clears

pub returns-clause-reminded : goal.returns-clause-reminded
returns-clause-reminded c = reminder_clears
