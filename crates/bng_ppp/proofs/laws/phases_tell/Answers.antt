use Rattle.bng_ppp.proofs.LinkPhases.{data_for_accepted, term_while_opened}
use Rattle.bng_ppp.proofs.laws.phases_tell.Goals as goal

pub returns : goal.returns
returns c = record { passing = data_for_accepted; term = term_while_opened }
