use Rattle.bng_steps.proofs.Fewer.{end_leaves_fewer}
use Rattle.bng_steps.proofs.OneEffect.{pppoe_alike}
use Rattle.bng_steps.proofs.QuestionLaws.{step_asks}
use Rattle.bng_steps.proofs.StepLaws.{pppoe_laws, step_whole, light, data_fates}
use Rattle.bng_steps.proofs.laws.steps_meet_laws.Goals as goal

pub returns-clause-laws : goal.returns-clause-laws
returns-clause-laws c = pppoe_laws

pub returns-clause-whole : goal.returns-clause-whole
returns-clause-whole c = step_whole

pub returns-clause-light : goal.returns-clause-light
returns-clause-light c = light

pub returns-clause-fates : goal.returns-clause-fates
returns-clause-fates c = data_fates

pub returns-clause-fewer : goal.returns-clause-fewer
returns-clause-fewer c = end_leaves_fewer

pub returns-clause-alike : goal.returns-clause-alike
returns-clause-alike c = pppoe_alike

pub returns-clause-questions : goal.returns-clause-questions
returns-clause-questions c = step_asks
