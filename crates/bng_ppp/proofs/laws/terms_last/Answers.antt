use Rattle.bng_ppp.proofs.TermLaws.{lasts, heard_lasts, settled_live, begins_live, begins_none}
use Rattle.bng_ppp.proofs.laws.terms_last.Goals as goal

pub returns : goal.returns
returns c = record { lasts = lasts; heard = heard_lasts; begins = begins_live; settled = settled_live; none = begins_none }
