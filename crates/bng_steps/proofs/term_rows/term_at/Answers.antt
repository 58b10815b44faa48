use Rattle.std.proofs.Common.{length, option_map, Some, refl, sym, ap, subst, ◌∙◌}
use Rattle.std.proofs.lemmas.Option.{slice_get_read}
use Rattle.bng_steps.specs.declared.terms.TermRow.{TermRow}
use Rattle.bng_steps.specs.Protocol.{key_of, SaysOf}
use Rattle.bng_steps.specs.TermRows.{row_from, tenure_in}
use Rattle.bng_steps.proofs.RowLaws.{any_at, key_at}
use Rattle.bng_steps.proofs.term_rows.term_at.Goals as goal

pub returns-clause-key : goal.returns-clause-key
returns-clause-key c =
    let rs = c.args.rows.now in
    let found = c.in_ok-get.ensures.lookup in
    ap (λ k. Some k) c.shown.ensures.key
    ∙ sym (key_at rs c.args.place ∙ ap (option_map (λ (r : TermRow). (row_from r).key)) (slice_get_read rs (length rs) c.args.place c.in_ok-get.field-0.now refl found.3.0 found.1))

pub returns-clause-says : goal.returns-clause-says
returns-clause-says c =
    let rs = c.args.rows.now in
    let t = c.shown.result in
    let found = c.in_ok-get.ensures.lookup in
    any_at (SaysOf t.user.items t.class.items t.began (key_of t)) rs c.args.place c.in_ok-get.field-0.now found.3.0
    (subst (λ (r : TermRow). SaysOf t.user.items t.class.items t.began (key_of t) (tenure_in r)) found.1 c.shown.ensures.says)
