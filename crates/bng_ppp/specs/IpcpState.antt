-- What a contract sees of IPCP on a link, and of one that was told nothing.
use Rattle.std.specs.Prelude.{Some, None}
use Rattle.bng_automaton.specs.Machine.{Machine}
use Rattle.bng_base.specs.declared.address.Ip4.{Ip4}
use Rattle.bng_ipcp.specs.Ask.{Ask}
use Rattle.bng_ppp.specs.Identifiers.{first_ids}
use Rattle.bng_ppp.specs.LcpState.{unused}
use Rattle.bng_ppp.specs.declared.ipcp_counters.IpcpKept.{IpcpKept}

pub record IpcpState : Type 0 where
  -- the automaton of IPCP, by RFC 1332 section 2
  pub machine : Machine
  -- the gateway's own side of IPCP
  pub ask : Ask
  pub kept : IpcpKept

-- the gateway's side, which asks for the gateway's address (RFC 1332 section 3.3) and has sent nothing
abbrev pub first_ask : Ip4 → Ask
first_ask address = record { wanted = record { address = Some address }; sent = None }

-- IPCP of a link that was told nothing
abbrev pub ipcp_unused : Ip4 → IpcpState
ipcp_unused none = record {
  machine = unused;
  ask = first_ask none;
  kept = record { ids = first_ids; naks = 0; lease = none };
}
