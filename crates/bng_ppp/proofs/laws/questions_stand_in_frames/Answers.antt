use Rattle.bng_ppp.proofs.Claimed.{octets_say}
use Rattle.bng_ppp.proofs.laws.questions_stand_in_frames.Goals as goal

pub returns : goal.returns
returns c r octets now random = octets_say r now random octets
