use Rattle.bng_steps.proofs.GrantLaws.{settled_sound, step_accepted, step_few, step_last, step_sound, step_yes, step_yes_over}
use Rattle.bng_steps.proofs.SoundOpening.{opened_sound}
use Rattle.bng_steps.proofs.laws.yeses_are_granted.Goals as goal

pub returns-clause-opened : goal.returns-clause-opened
returns-clause-opened c number profiles circuits now low own apart = opened_sound now number circuits apart profiles low own

pub returns-clause-kept : goal.returns-clause-kept
returns-clause-kept c = step_sound

pub returns-clause-settled : goal.returns-clause-settled
returns-clause-settled c = settled_sound

pub returns-clause-yes : goal.returns-clause-yes
returns-clause-yes c = step_yes

pub returns-clause-yes_over : goal.returns-clause-yes_over
returns-clause-yes_over c = step_yes_over

pub returns-clause-accepted : goal.returns-clause-accepted
returns-clause-accepted c = step_accepted

pub returns-clause-last : goal.returns-clause-last
returns-clause-last c = step_last

pub returns-clause-few : goal.returns-clause-few
returns-clause-few c = step_few
