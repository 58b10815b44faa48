use Rattle.std.proofs.Common.{sym, ◌∙◌, arith}
use Rattle.bng_lac.proofs.Placed.{with_here, with_gap, room_left}
use Rattle.bng_lac.proofs.calls.Calls.put.Goals as goal

pub returns-in-Ok : goal.returns-in-Ok
returns-in-Ok c =
    let here = rw (← c.self.view_is) at c.in-Ok.ensures.here in
    rw (← c.self.view_is) (sym (with_here c.args.call _ c.in-Ok.place c.self.invariant.0 here))

pub returns-in-Err : goal.returns-in-Err
returns-in-Err c =
    let gap = rw (← c.self.view_is) at c.in-Err.ensures.gap in
    let room = room_left c.args.call _ c.in-Err.place gap (rw (← c.self.view_is) at c.requires) in
    let items = rw (c.insert.ensures.succeeds (omega (arith, room, c.self.invariant.1))) at c.insert.ensures.items in
    rw (← c.self.view_is) (items ∙ sym (with_gap c.args.call _ c.in-Err.place gap))
