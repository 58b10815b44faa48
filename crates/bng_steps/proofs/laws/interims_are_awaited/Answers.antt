use Rattle.bng_steps.proofs.Awaiting.{awaits_kept, awaits_settled}
use Rattle.bng_steps.proofs.laws.interims_are_awaited.Goals as goal

pub returns-clause-kept : goal.returns-clause-kept
returns-clause-kept c s h t is none near = awaits_kept t s.rules s.slots h.limited h.deed near h.answer is.answered none is.step

pub returns-clause-settled : goal.returns-clause-settled
returns-clause-settled c s t = awaits_settled t s
