use Rattle.bng_acct.proofs.GoingOn.{both}
use Rattle.bng_access.proofs.request.put_place.Goals as goal

pub returns-clause-goes_on : goal.returns-clause-goes_on
returns-clause-goes_on c =
    let name = rw c.as_slice.ensures.value at c.put.ensures.goes_on in
    both (both (both c.put_station.ensures.goes_on name) c.put_challenge.ensures.goes_on) c.put_number.ensures.goes_on
