use Rattle.std.proofs.Common.{option_map, Some, ap, sym, subst, ◌∙◌}
use Rattle.bng_engine.specs.Terms.{Key}
use Rattle.bng_steps.specs.declared.terms.TermRow.{TermRow}
use Rattle.bng_steps.specs.Interims.{row_told}
use Rattle.bng_steps.specs.Protocol.{key_of, SaysOf}
use Rattle.bng_steps.specs.TermRows.{row_from, tenure_in}
use Rattle.bng_steps.proofs.RowLaws.{any_at}
use Rattle.bng_steps.proofs.RowsByNumber.{no_row, row_at_place}
use Rattle.bng_steps.proofs.term_rows.told_of.Goals as goal

pub returns-in_err-row-clause-row : goal.returns-in_err-row-clause-row
returns-in_err-row-clause-row c =
    ap (option_map row_told) c.from_residual.ensures ∙ sym (no_row c.args.serial c.args.rows.now c.in_err-row.ensures.none)

pub returns-clause-row : goal.returns-clause-row
returns-clause-row c =
    let r : TermRow = c.index-rows-branch.result in
    ap (λ (k : Key). Some (record { key = k; carried = r.carried })) c.shown.ensures.key
    ∙ ap (λ (q : TermRow). Some (row_from q)) c.index-rows-branch.is
    ∙ sym (row_at_place c.args.serial c.args.rows.now c.in_ok-row.field-0 r c.requires.rising c.in_ok-row.ensures.there)

pub returns-clause-says : goal.returns-clause-says
returns-clause-says c =
    let t = c.shown.result in
    let r : TermRow = c.index-rows-branch.result in
    any_at (SaysOf t.user.items t.class.items t.began (key_of t)) c.args.rows.now c.in_ok-row.field-0 r c.in_ok-row.ensures.there.0
    (subst (λ (q : TermRow). SaysOf t.user.items t.class.items t.began (key_of t) (tenure_in q)) c.index-rows-branch.is c.shown.ensures.says)
