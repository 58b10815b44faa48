use Rattle.std.proofs.Common.{[]}
use Rattle.bng_coa.proofs.Standing.{run_apart, none_apart}
use Rattle.bng_coa.proofs.law.requests_are_apart.Goals as goal

pub returns-clause-few : goal.returns-clause-few
returns-clause-few c events requests run = (run_apart events [] requests run none_apart).few

pub returns-clause-keys : goal.returns-clause-keys
returns-clause-keys c events requests run = (run_apart events [] requests run none_apart).keys

pub returns-clause-numbers : goal.returns-clause-numbers
returns-clause-numbers c events requests run = (run_apart events [] requests run none_apart).numbers
