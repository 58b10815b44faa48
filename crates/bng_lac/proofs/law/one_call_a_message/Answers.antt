use Rattle.bng_lac.proofs.Laws.{opens_waiting, others_stay}
use Rattle.bng_lac.proofs.Heard.{lac_changes, lac_brings}
use Rattle.bng_lac.proofs.law.one_call_a_message.Goals as goal

pub returns-clause-one : goal.returns-clause-one
returns-clause-one c = λ s m random now e. lac_changes s m random now e

pub returns-clause-up : goal.returns-clause-up
returns-clause-up c = λ s m random now e. lac_brings s m random now e

pub returns-clause-opens : goal.returns-clause-opens
returns-clause-opens c = λ secret call avps up. opens_waiting secret call avps up

pub returns-clause-others : goal.returns-clause-others
returns-clause-others c = λ secret call avps calls n differ. others_stay secret call avps calls n differ
