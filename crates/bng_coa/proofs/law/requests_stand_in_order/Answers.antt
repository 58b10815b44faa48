use Rattle.std.proofs.Common.{[]}
use Rattle.bng_coa.proofs.Standing.{run_in_order, none_in_order}
use Rattle.bng_coa.proofs.law.requests_stand_in_order.Goals as goal

pub returns : goal.returns
returns c events requests rises run = run_in_order events 0 [] requests rises run none_in_order
