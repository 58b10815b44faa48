use Rattle.std.proofs.Common.{List, sym, ap, subst, ◌∙◌}
use Rattle.std.proofs.Math.ListN.{set}
use Rattle.bng_engine.specs.Lists.{AnyOf}
use Rattle.bng_steps.specs.declared.terms.TermRow.{TermRow}
use Rattle.bng_steps.specs.TermRows.{HasSerial, IsPlaceOf, ended_by}
use Rattle.bng_steps.proofs.Closing.{none_closed, one_closed}
use Rattle.bng_steps.proofs.term_rows.close.Goals as goal

pub returns-in-Some-clause-rows : goal.returns-in-Some-clause-rows
returns-in-Some-clause-rows c =
    let rows = c.args.rows.now.items in
    let i = c.in-Some.place in
    let there = subst (λ (rs : List TermRow). IsPlaceOf c.args.serial rs i) c.deref.ensures.value c.in-Some.ensures.there in
    ap (λ (r : TermRow). set rows i r) (c.end.ensures.row ∙ ap (ended_by c.args.cause) c.index_mut.ensures.value)
    ∙ one_closed c.args.serial c.args.cause rows i c.index_mut.result.now c.requires.rising there

pub returns-in-None-clause-rows : goal.returns-in-None-clause-rows
returns-in-None-clause-rows c = none_closed c.args.serial c.args.cause c.args.rows.now.items (λ any. c.in-None.ensures.none (subst (AnyOf (HasSerial c.args.serial)) (sym c.deref.ensures.value) any))
