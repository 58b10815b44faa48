use Rattle.bng_acct.proofs.Worlds.{goes_in_order}
use Rattle.bng_acct.proofs.law.records_go_out_in_their_order.Goals as goal

pub returns : goal.returns
returns c = goes_in_order
