use Rattle.std.proofs.Common.{◌≡◌, ◌≤◌, map}
use Rattle.std.specs.List.{range_with_len}
use Rattle.std.specs.Vec.{vec_capacity}
use Rattle.bng_round.specs.Opening.{counts_of}
use Rattle.bng_round.proofs.opening.lengths.Given as goal

abbrev pub invariant-loop-number : goal.invariant-loop-number
invariant-loop-number l = (l.lengths.items ≡ map (counts_of l.fn.seats) (range_with_len 0 l.number)) × (l.fn.workers ≤ vec_capacity l.lengths) × (l.number ≤ l.fn.workers)
