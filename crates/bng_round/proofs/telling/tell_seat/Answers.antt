use Rattle.std.proofs.Common.{sym, subst}
use Rattle.bng_pool.specs.Seats.{SeatView as Hold}
use Rattle.bng_round.specs.Asking.{Goes}
use Rattle.bng_round.specs.Telling.{Knows}
use Rattle.bng_round.proofs.Tellings.{goes_told, knows_told}
use Rattle.bng_round.proofs.telling.tell_seat.Goals as goal

pub returns-clause-goes : goal.returns-clause-goes
returns-clause-goes c = subst (λ (z : Hold). Goes c.args.to.now z) (sym c.tell.ensures.to) (goes_told c.args.to.now c.args.from.now)

pub returns-clause-knows : goal.returns-clause-knows
returns-clause-knows c = subst (λ (z : Hold). Knows z c.args.from.now) (sym c.tell.ensures.to) (knows_told c.args.to.now c.args.from.now)
