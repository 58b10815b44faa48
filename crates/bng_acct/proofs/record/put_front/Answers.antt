use Rattle.bng_acct.proofs.GoingOn.{both}
use Rattle.bng_acct.proofs.record.put_front.Goals as goal

pub returns-clause-goes_on : goal.returns-clause-goes_on
returns-clause-goes_on c = λ classes are.
    both (both (both c.put_identity.ensures.goes_on (c.put_classes.ensures.goes_on classes are)) c.put_station.ensures.goes_on) c.put_sender.ensures.goes_on
