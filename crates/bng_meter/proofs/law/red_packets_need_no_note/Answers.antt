use Rattle.bng_meter.proofs.Forgetting.{colours_stay}
use Rattle.bng_meter.proofs.law.red_packets_need_no_note.Goals as goal

pub returns : goal.returns
returns c = colours_stay
