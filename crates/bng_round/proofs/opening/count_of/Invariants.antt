use Rattle.std.proofs.Common.{◌≡◌, ◌≤◌, take}
use Rattle.bng_round.specs.Opening.{counts_of}
use Rattle.bng_round.proofs.opening.count_of.Given as goal

abbrev pub invariant-loop-seat : goal.invariant-loop-seat
invariant-loop-seat l = (l.count ≡ counts_of (take l.seat-index l.seats) l.fn.number) × (l.count ≤ l.seat-index)
