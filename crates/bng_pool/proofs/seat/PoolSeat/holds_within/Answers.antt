use Rattle.std.proofs.Common.{ℕ, subst}
use Rattle.bng_pool.specs.Ranges.{HasAddress}
use Rattle.bng_pool.specs.Seats.{SeatView, Holds}
use Rattle.bng_pool.proofs.seat.PoolSeat.holds_within.Goals as goal

pub returns : goal.returns
returns c = subst (λ (z : SeatView). (a : ℕ) → Holds z.held a → HasAddress z.pool.ranges a) c.self.view_is c.self.invariant.0.within
