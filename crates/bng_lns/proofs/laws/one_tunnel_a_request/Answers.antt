use Rattle.bng_lns.proofs.Given.{repeated, repeated_length}
use Rattle.bng_lns.proofs.laws.one_tunnel_a_request.Goals as goal

pub returns-clause-same : goal.returns-clause-same
returns-clause-same c = λ name lacs t came m p zero asks again. repeated name lacs t came m p zero asks again

pub returns-clause-none : goal.returns-clause-none
returns-clause-none c = λ name lacs t came m p zero asks again. repeated_length name lacs t came m p zero asks again
