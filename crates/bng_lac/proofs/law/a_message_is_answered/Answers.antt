use Rattle.bng_lac.proofs.Heard.{lac_answered, lac_authentic}
use Rattle.bng_lac.proofs.law.a_message_is_answered.Goals as goal

pub returns-clause-acknowledged : goal.returns-clause-acknowledged
returns-clause-acknowledged c = λ s m random now. lac_answered s m random now

pub returns-clause-authentic : goal.returns-clause-authentic
returns-clause-authentic c = λ s m random now e. lac_authentic s m random now e
