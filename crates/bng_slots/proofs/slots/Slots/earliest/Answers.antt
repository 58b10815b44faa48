use Rattle.std.proofs.Common.{sym}
use Rattle.bng_slots.specs.Inside.{by_number}
use Rattle.bng_slots.proofs.Agreeing.{none_some}
use Rattle.bng_slots.proofs.SlotLaws.{earliest_is, none_due, some_due}
use Rattle.bng_slots.proofs.slots.Slots.earliest.Goals as goal

pub returns-in_err-due-clause-none : goal.returns-in_err-due-clause-none
returns-in_err-due-clause-none g c = rw (← c.self.view_is) (λ _. none_due g.V.Slotted.deadline (record { shard = c.self.inside.shard; by_number = by_number c.self.inside.shard c.self.inside.shelf }) c.self.inside.deadlines c.self.invariant.deadlines_agree c.in_err-due.ensures.none, λ _. c.from_residual.ensures)

pub returns-clause-first : goal.returns-clause-first
returns-clause-first g c = rw (← c.self.view_is) (earliest_is g.V.Slotted.deadline (record { shard = c.self.inside.shard; by_number = by_number c.self.inside.shard c.self.inside.shelf }) c.self.inside.deadlines c.self.invariant.deadlines_agree c.in_ok-due.due c.in_ok-due.ensures.there c.in_ok-due.ensures.least)

pub returns-clause-none : goal.returns-clause-none
returns-clause-none g c = rw (← c.self.view_is) (λ e. absurd (none_some _ (sym e)), λ nobody. absurd (some_due g.V.Slotted.deadline (record { shard = c.self.inside.shard; by_number = by_number c.self.inside.shard c.self.inside.shelf }) c.self.inside.deadlines c.self.invariant.deadlines_agree c.in_ok-due.due c.in_ok-due.ensures.there nobody))
