use Rattle.std.proofs.Common.{length}
use Rattle.bng_pppoe_wire.proofs.Scanning.{Scanned}
use Rattle.bng_pppoe_wire.proofs.scan.scan_tags.Given as goal

abbrev pub invariant-loop-tag : goal.invariant-loop-tag
invariant-loop-tag l = Scanned l.payload l.rest l.scan

abbrev pub decreases-loop-tag : goal.decreases-loop-tag
decreases-loop-tag l = length l.rest
