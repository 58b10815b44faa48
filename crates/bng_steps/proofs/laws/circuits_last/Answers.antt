use Rattle.bng_steps.proofs.CircuitsKept.{circuits_kept, circuits_opened, circuits_settled}
use Rattle.bng_steps.proofs.laws.circuits_last.Goals as goal

pub returns-clause-opened : goal.returns-clause-opened
returns-clause-opened c number profiles circuits now low own apart = circuits_opened number profiles circuits now apart

pub returns-clause-kept : goal.returns-clause-kept
returns-clause-kept c = circuits_kept

pub returns-clause-settled : goal.returns-clause-settled
returns-clause-settled c = circuits_settled
