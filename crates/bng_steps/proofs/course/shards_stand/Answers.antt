use Rattle.bng_steps.proofs.Colours.{opened_stands, settled_stands, step_stands}
use Rattle.bng_steps.proofs.course.shards_stand.Goals as goal

pub returns-clause-opened : goal.returns-clause-opened
returns-clause-opened c number profiles circuits now low own apart = opened_stands number profiles circuits now low own apart

pub returns-clause-kept : goal.returns-clause-kept
returns-clause-kept c = step_stands

pub returns-clause-settled : goal.returns-clause-settled
returns-clause-settled c = settled_stands
