use Rattle.bng_steps.proofs.Limiting.{limits_told}
use Rattle.bng_steps.proofs.course.limits_are_told.Goals as goal

pub returns : goal.returns
returns c r s limited d n x l h at leased = limits_told r s limited d h n x l at leased
