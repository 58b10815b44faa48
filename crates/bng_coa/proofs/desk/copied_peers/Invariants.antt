use Rattle.std.proofs.Common.{◌≡◌, take}
use Rattle.bng_coa.proofs.desk.copied_peers.Given as goal

abbrev pub invariant-loop-peer : goal.invariant-loop-peer
invariant-loop-peer l = l.list.items ≡ take l.peer-index l.peers
