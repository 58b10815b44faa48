use Rattle.std.proofs.Common.{List, sym, subst}
use Rattle.bng_pool.specs.Seats.{SeatView as Hold}
use Rattle.bng_round.specs.Views.{PlacedView}
use Rattle.bng_round.specs.Asking.{Goes}
use Rattle.bng_round.specs.Telling.{AllTold, Knows}
use Rattle.bng_round.proofs.Answering.{goes_on}
use Rattle.bng_round.proofs.Tellings.{knows_on}
use Rattle.bng_round.proofs.telling.debrief.Goals as goal

pub returns-clause-goes : goal.returns-clause-goes
returns-clause-goes g c = subst (λ (z : Hold). Goes c.args.first.now z) (sym c.hear_all.ensures.same) (goes_on c.args.first.now c.tell_each.new.to c.tell_all.new.to c.tell_each.ensures.goes c.tell_all.ensures.goes)

pub returns-clause-knows : goal.returns-clause-knows
returns-clause-knows g c = (
  (λ s g e. subst (λ (z : Hold). Knows z g.hold) (sym c.hear_all.ensures.same) (c.tell_all.ensures.knows s g e)),
  λ j q e. subst (λ (z : Hold). Knows z q) (sym c.hear_all.ensures.same) (knows_on c.tell_each.new.to c.tell_all.new.to q c.tell_all.ensures.goes (c.tell_each.ensures.knows j q e)),
)

pub returns-clause-told : goal.returns-clause-told
returns-clause-told g c = subst (λ (z : Hold × List PlacedView). AllTold z.0 z.1 c.hear_all.new.shards) (λ i. (sym c.hear_all.ensures.same i, c.tell_all.ensures.same i)) c.hear_all.ensures.told
