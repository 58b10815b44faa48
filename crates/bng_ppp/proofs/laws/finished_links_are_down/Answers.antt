use Rattle.bng_ppp.proofs.FinishLaws.{finished_down, heard_down, settled_down}
use Rattle.bng_ppp.proofs.laws.finished_links_are_down.Goals as goal

pub returns : goal.returns
returns c = record { steps = finished_down; heard = heard_down; settled = settled_down }
