use Rattle.bng_steps.proofs.Numbered.{step_tenures, tenures_later, tenures_opened, tenures_settled}
use Rattle.bng_steps.proofs.laws.terms_are_numbered.Goals as goal

pub returns-clause-opened : goal.returns-clause-opened
returns-clause-opened c number profiles circuits now low own apart = tenures_opened number now profiles circuits own

pub returns-clause-kept : goal.returns-clause-kept
returns-clause-kept c r s limited d moment step sound le h = step_tenures r s limited d moment sound le h step

pub returns-clause-settled : goal.returns-clause-settled
returns-clause-settled c = tenures_settled

pub returns-clause-later : goal.returns-clause-later
returns-clause-later c = tenures_later
