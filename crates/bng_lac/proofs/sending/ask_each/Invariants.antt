use Rattle.std.proofs.Common.{◌≡◌, length}
use Rattle.bng_lac.specs.AskingView.{asking_of}
use Rattle.bng_lac.specs.Steps.{asks_each}
use Rattle.bng_lac.proofs.sending.ask_each.Given as goal

abbrev pub invariant-loop-left : goal.invariant-loop-left
invariant-loop-left l =
    asks_each (asking_of l.channel l.asked) l.left l.fn.now ≡ asks_each (asking_of l.fn.channel l.fn.before) l.fn.calls l.fn.now

abbrev pub decreases-loop-left : goal.decreases-loop-left
decreases-loop-left l = length l.left
