use Rattle.bng_acct.proofs.Worlds.{stays_open}
use Rattle.bng_acct.proofs.law.records_stay_until_acknowledged.Goals as goal

pub returns : goal.returns
returns c = λ s end events n x. stays_open events s end n x
