use Rattle.bng_lac.proofs.Asking.{lac_asks, called_asks}
use Rattle.bng_lac.proofs.law.each_call_is_asked_for.Goals as goal

pub returns-clause-waiting : goal.returns-clause-waiting
returns-clause-waiting c = λ s m random now none few e. lac_asks s m random now none few e

pub returns-clause-later : goal.returns-clause-later
returns-clause-later c = λ s session now e asked. called_asks s session now e asked
