-- What a contract sees of the desk.
use Rattle.std.specs.Prelude.{ℕ, List}
use Rattle.bng_base.specs.declared.address.Ip4.{Ip4}
use Rattle.bng_coa.specs.declared.request.ChangeRequest.{ChangeRequest}

-- who may ask, the secret that is shared with them, and the requests in the order in which they were admitted
pub record State : Type 0 where
  pub peers : List Ip4
  pub secret : List ℕ
  pub requests : List ChangeRequest
