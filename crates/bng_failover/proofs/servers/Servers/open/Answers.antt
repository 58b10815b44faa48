use Rattle.std.proofs.Common.{◌≡◌, List, map, sym, subst}
use Rattle.bng_failover.specs.declared.server.Server.{Server}
use Rattle.bng_failover.specs.Servers.{in_hand, new_server, AreSound}
use Rattle.bng_failover.proofs.Opening.{opened_sound, opened_none}
use Rattle.bng_failover.proofs.servers.Servers.open.Goals as goal

pub invariant_of-result : goal.invariant_of-result
invariant_of-result c =
    let peers = c.args.peers.now in
    let is : c.in_ok-list.list.items ≡ map new_server peers = c.in_ok-list.ensures in
    (subst AreSound (sym is) (opened_sound peers c.requires), subst (λ (s : List Server). 0 ≡ in_hand s) (sym is) (sym (opened_none peers)))
