use Rattle.bng_steps.proofs.HousedSettled.{housed_none, housed_opened, housed_settled}
use Rattle.bng_steps.proofs.Housing.{housed_kept}
use Rattle.bng_steps.proofs.laws.terms_are_housed.Goals as goal

pub returns-clause-opened : goal.returns-clause-opened
returns-clause-opened c number profiles circuits now low own apart = housed_opened number profiles circuits now apart

pub returns-clause-kept : goal.returns-clause-kept
returns-clause-kept c = housed_kept

pub returns-clause-settled : goal.returns-clause-settled
returns-clause-settled c = housed_settled

pub returns-clause-none : goal.returns-clause-none
returns-clause-none c = housed_none
