use Rattle.bng_ppp.specs.LinkStep.{link_said}
use Rattle.bng_ppp.proofs.MessageLaws.{all_read_back}
use Rattle.bng_ppp.proofs.LinkOuts.{link_steps_written}
use Rattle.bng_ppp.proofs.laws.link_frames_read_back.Goals as goal

pub returns : goal.returns
returns c = λ r now random what old new steps h.
    all_read_back steps.layer.outs.items (link_steps_written r now random what old (link_said steps) new h) steps.layer.fit
