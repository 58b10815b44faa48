use Rattle.std.proofs.Common.{◌≡◌, take}
use Rattle.bng_rad_client.proofs.client.copied.Given as goal

abbrev pub invariant-loop-octet : goal.invariant-loop-octet
invariant-loop-octet l = l.list.items ≡ take l.octet-index l.octets
