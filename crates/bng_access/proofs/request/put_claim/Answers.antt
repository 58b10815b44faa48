use Rattle.bng_acct.proofs.GoingOn.{both}
use Rattle.bng_access.proofs.request.put_claim.Goals as goal

pub returns-clause-goes_on : goal.returns-clause-goes_on
returns-clause-goes_on c =
    let user = rw c.as_slice.ensures.value at c.put.ensures.goes_on in
    let port = rw c.from.ensures at c.put_number-2.ensures.goes_on in
    both user (both c.put_password.ensures.goes_on (both c.put_number.ensures.goes_on (both port (both c.put_number-3.ensures.goes_on c.put_number-4.ensures.goes_on))))
