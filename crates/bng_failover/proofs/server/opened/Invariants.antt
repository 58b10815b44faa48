use Rattle.std.proofs.Common.{◌≡◌, ◌≤◌, length, take, map, vec_capacity}
use Rattle.bng_failover.specs.Servers.{new_server}
use Rattle.bng_failover.proofs.server.opened.Given as goal

-- the servers so far were opened
abbrev pub invariant-loop-peer : goal.invariant-loop-peer
invariant-loop-peer l = record {
  same : l.servers.items ≡ map new_server (take l.peer-index l.peers);
  done : length l.servers.items ≡ l.peer-index;
  room : length l.peers ≤ vec_capacity l.servers;
}
