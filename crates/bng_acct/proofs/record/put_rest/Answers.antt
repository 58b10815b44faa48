use Rattle.bng_acct.proofs.GoingOn.{both}
use Rattle.bng_acct.proofs.record.put_rest.Goals as goal

pub returns-clause-goes_on : goal.returns-clause-goes_on
returns-clause-goes_on c =
    let id = rw c.session_id.ensures at c.put.ensures.goes_on in
    both (both (both (both (both c.put_low_octets.ensures.goes_on id) c.put_usage.ensures.goes_on) c.put_cause.ensures.goes_on) c.put_gigawords.ensures.goes_on) c.put_port.ensures.goes_on
