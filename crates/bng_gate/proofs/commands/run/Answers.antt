use Rattle.bng_gate.proofs.Commanding.{complete, ends, faulty, no_command, played, safely, safely_played, served, unfailed}
use Rattle.bng_gate.proofs.commands.run.Goals as goal

pub returns-clause-ends : goal.returns-clause-ends
returns-clause-ends g c = ends _ _ _ _ c.obey.ensures

pub returns-clause-no_command : goal.returns-clause-no_command
returns-clause-no_command g c = no_command _ _ _ _ c.obey.ensures

pub returns-clause-headline : goal.returns-clause-headline
returns-clause-headline g c = served _ _ _ _ c.obey.ensures

pub returns-clause-safe : goal.returns-clause-safe
returns-clause-safe g c = safely _ _ _ _ c.obey.ensures

pub returns-clause-exercised : goal.returns-clause-exercised
returns-clause-exercised g c = played _ _ _ _ c.obey.ensures

pub returns-clause-safely_exercised : goal.returns-clause-safely_exercised
returns-clause-safely_exercised g c = safely_played _ _ _ _ c.obey.ensures

pub returns-clause-unfailed : goal.returns-clause-unfailed
returns-clause-unfailed g c = unfailed _ _ _ _ c.obey.ensures

pub returns-clause-faulty : goal.returns-clause-faulty
returns-clause-faulty g c = faulty _ _ _ _ c.obey.ensures

pub returns-clause-complete : goal.returns-clause-complete
returns-clause-complete g c = complete _ _ _ _ c.obey.ensures
