use Rattle.std.proofs.Common.{sym}
use Rattle.bng_slots.proofs.SlotLaws.{lowest_vacant, not_full, is_full, every_used}
use Rattle.bng_slots.proofs.Agreeing.{none_some}
use Rattle.bng_slots.proofs.slots.Slots.vacant.Goals as goal

pub returns-in_err-place-clause-none : goal.returns-in_err-place-clause-none
returns-in_err-place-clause-none g c = rw (← c.self.view_is) (λ _. is_full _ _ _ _ _ _ _ _ _ _ _ c.self.invariant c.in_err-place.ensures.none, λ _. c.from_residual.ensures)

pub returns-in_err-place-clause-all : goal.returns-in_err-place-clause-all
returns-in_err-place-clause-all g c = rw (← c.self.view_is, c.from_residual.ensures) (every_used _ _ _ _ _ _ _ _ _ _ _ c.self.invariant c.in_err-place.ensures.none)

pub returns-clause-lowest : goal.returns-clause-lowest
returns-clause-lowest g c = rw (← c.self.view_is) (lowest_vacant _ _ _ _ _ _ _ _ _ _ _ c.self.invariant c.in_ok-place.place c.in_ok-place.ensures.within c.in_ok-place.ensures.free c.in_ok-place.ensures.lowest)

pub returns-clause-none : goal.returns-clause-none
returns-clause-none g c = rw (← c.self.view_is) (λ e. absurd (none_some _ (sym e)), λ full. absurd (not_full _ _ _ _ _ _ _ _ _ _ _ c.self.invariant c.in_ok-place.place c.in_ok-place.ensures.within c.in_ok-place.ensures.free full))
