use Rattle.std.proofs.Common.{List, sym, ap, subst, ◌∙◌}
use Rattle.std.proofs.Math.ListN.{set}
use Rattle.bng_engine.specs.Lists.{AnyOf}
use Rattle.bng_steps.specs.declared.terms.TermRow.{TermRow}
use Rattle.bng_steps.specs.TermRows.{HasSerial, IsPlaceOf, recast}
use Rattle.bng_steps.proofs.Recasting.{none_recast, one_recast}
use Rattle.bng_steps.proofs.term_rows.recast.Goals as goal

pub returns-in-Some-clause-rows : goal.returns-in-Some-clause-rows
returns-in-Some-clause-rows c =
    let rows = c.args.rows.now.items in
    let i = c.in-Some.row in
    let there = subst (λ (rs : List TermRow). IsPlaceOf c.args.serial rs i) c.deref.ensures.value c.in-Some.ensures.there in
    ap (λ (r : TermRow). set rows i r) (c.move_to.ensures ∙ ap (recast c.args.place) c.index_mut.ensures.value)
    ∙ one_recast c.args.serial c.args.place rows i c.index_mut.result.now c.requires.rising there

pub returns-in-None-clause-rows : goal.returns-in-None-clause-rows
returns-in-None-clause-rows c = none_recast c.args.serial c.args.place c.args.rows.now.items (λ any. c.in-None.ensures.none (subst (AnyOf (HasSerial c.args.serial)) (sym c.deref.ensures.value) any))
