use Rattle.bng_coa.proofs.Staying.{stays}
use Rattle.bng_coa.proofs.law.requests_stay_in_hand.Goals as goal

pub returns : goal.returns
returns c number test events old new numbered unanswered run there = stays number test numbered events old new unanswered run there
