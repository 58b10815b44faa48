use Rattle.bng_ppp.specs.Said.{said}
use Rattle.bng_ppp.proofs.LcpOuts.{steps_lcp}
use Rattle.bng_ppp.proofs.MessageLaws.{all_read_back}
use Rattle.bng_ppp.proofs.LinkOuts.{all_of_lcp}
use Rattle.bng_ppp.proofs.laws.lcp_frames_read_back.Goals as goal

pub returns : goal.returns
returns c = λ r told now random old new steps h.
    all_read_back steps.outs.items (all_of_lcp (said steps).outs (steps_lcp r told now random old (said steps) new h)) steps.fit
