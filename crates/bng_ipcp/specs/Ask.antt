-- What a contract sees of the gateway's side of IPCP.
use Rattle.std.specs.Prelude.{Option}
use Rattle.bng_ipcp.specs.declared.configure_request.IpcpOptions.{IpcpOptions}
use Rattle.bng_ipcp.specs.declared.configure_request.SentIpcpRequest.{SentIpcpRequest}

pub record Ask : Type 0 where
  -- what the next Configure-Request asks for
  pub wanted : IpcpOptions
  -- the last Configure-Request that was sent
  pub sent : Option SentIpcpRequest
