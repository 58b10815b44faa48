-- What a contract sees of the gateway's side of LCP.
use Rattle.std.specs.Prelude.{ℕ, List, Option}
use Rattle.bng_base.specs.declared.settings.AuthKind.{AuthKind}
use Rattle.bng_lcp.specs.declared.configure_request.LcpOptions.{LcpOptions}
use Rattle.bng_lcp.specs.declared.configure_request.SentLcpRequest.{SentLcpRequest}

pub record Ask : Type 0 where
  -- the largest MRU that is taken
  pub limit : ℕ
  -- the ways to authenticate that are allowed
  pub allowed : List AuthKind
  -- what the next Configure-Request asks for
  pub wanted : LcpOptions
  -- the last Configure-Request that was sent
  pub sent : Option SentLcpRequest
