use Rattle.std.proofs.Common.{Some, sym, ap, ◌∙◌}
use Rattle.bng_lac.specs.declared.call.LacCall.{LacCall}
use Rattle.bng_lac.proofs.Placed.{find_here, find_gap}
use Rattle.bng_lac.proofs.calls.Calls.find.Goals as goal

pub returns-in-Ok-clause-answer : goal.returns-in-Ok-clause-answer
returns-in-Ok-clause-answer c =
    let here = rw (← c.self.view_is) at c.in-Ok.ensures.here in
    rw (← c.self.view_is) (ap (λ (d : LacCall). Some d) c.index.ensures ∙ sym (find_here c.args.session _ c.in-Ok.place c.self.invariant.0 here c.index.result.now))

pub returns-in-Err-clause-answer : goal.returns-in-Err-clause-answer
returns-in-Err-clause-answer c = sym (find_gap c.args.session _ c.in-Err.field-0 c.in-Err.ensures.gap)
