-- An identifier of a server that is freed.
use Rattle.std.specs.Prelude.{◌≡◌, ℕ, List, Option, Some, None, slice_get}
use Rattle.bng_failover.specs.declared.server.Server.{Server}
use Rattle.bng_failover.specs.Servers.{without}

abbrev pub WithdrawsFrom : Option Server → (old new : List Server) → (at id : ℕ) → Type 0
WithdrawsFrom None old new at id = new ≡ old
WithdrawsFrom (Some server) old new at id = new ≡ without old at server id

-- the identifier of the server at a place is free; where there is no such server, all is as it was
abbrev pub Withdraws : (old new : List Server) → (at id : ℕ) → Type 0
Withdraws old new at id = WithdrawsFrom (slice_get old at) old new at id
