use Rattle.std.proofs.Common.{◌≡◌, length}
use Rattle.bng_pppoe_wire.specs.View.{tags_of}
use Rattle.bng_discovery.specs.Request.{first_tag}
use Rattle.bng_discovery.proofs.request.first.Given as goal

abbrev pub invariant-loop-left : goal.invariant-loop-left
invariant-loop-left l = first_tag l.kind (tags_of l.found) ≡ first_tag l.kind (tags_of l.left)

abbrev pub decreases-loop-left : goal.decreases-loop-left
decreases-loop-left l = length l.left
