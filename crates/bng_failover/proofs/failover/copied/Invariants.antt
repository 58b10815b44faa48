use Rattle.std.proofs.Common.{◌≡◌, take}
use Rattle.bng_failover.proofs.failover.copied.Given as goal

abbrev pub invariant-loop-octet : goal.invariant-loop-octet
invariant-loop-octet l = l.list.items ≡ take l.octet-index l.octets
