use Rattle.std.proofs.Common.{sym, ◌∙◌}
use Rattle.bng_lac.proofs.Placed.{without_here, without_gap}
use Rattle.bng_lac.proofs.calls.Calls.remove.Goals as goal

pub returns-in-Ok : goal.returns-in-Ok
returns-in-Ok c =
    let here = rw (← c.self.view_is) at c.in-Ok.ensures.here in
    rw (← c.self.view_is) (c.remove.ensures.items ∙ sym (without_here c.args.session _ c.in-Ok.place c.self.invariant.0 here))

pub returns-in_default : goal.returns-in_default
returns-in_default c = sym (without_gap c.args.session _ c.in_default.field-0 c.in_default.ensures.gap)
