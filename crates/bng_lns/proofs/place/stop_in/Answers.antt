use Rattle.bng_lns.proofs.Hearing.{sent_spelled}
use Rattle.bng_lns.proofs.Numbered.{keeps_place}
use Rattle.bng_lns.proofs.place.stop_in.Goals as goal

pub returns-clause-kept : goal.returns-clause-kept
returns-clause-kept c = λ number is. keeps_place c.args.place.now _ c.stop-step.ensures.lasting (λ t. (c.stop-step.ensures.sound t).tunnel) number is

pub returns-clause-spelled : goal.returns-clause-spelled
returns-clause-spelled c = λ t. sent_spelled _ _ _ (c.stop-step.ensures.sound t).outs
