use Rattle.std.proofs.Common.{length}
use Rattle.bng_pppoe_wire.specs.View.{tags_of}
use Rattle.bng_pppoe_wire.proofs.Scanning.{Parts}
use Rattle.bng_pppoe_wire.proofs.listing.tags.Given as goal

abbrev pub invariant-loop-tag : goal.invariant-loop-tag
invariant-loop-tag l = Parts l.frame.payload.now l.rest (tags_of l.found.items)

abbrev pub decreases-loop-tag : goal.decreases-loop-tag
decreases-loop-tag l = length l.rest
