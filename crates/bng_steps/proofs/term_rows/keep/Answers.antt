use Rattle.std.proofs.Common.{rules, tests, sym, ◌∙◌}
use Rattle.std.proofs.lemmas.Iterator.{YieldsList-from_slice}
use Rattle.std.proofs.lemmas.Iterator.Search.{any_from_yields_List}
use Rattle.bng_steps.specs.declared.terms.TermRow.{TermRow}
use Rattle.bng_steps.specs.TermRows.{tenure_in}
use Rattle.bng_steps.specs.Tenures.{has_kept}
use Rattle.bng_steps.proofs.SameKeys.{any_tenure}
use Rattle.bng_steps.proofs.term_rows.keep.Goals as goal

pub returns : goal.returns
returns c =
    let test = λ (r : TermRow). has_kept c.args.address (tenure_in r) in
    any_from_yields_List test _ _ _ c.any.ensures.ran (YieldsList-from_slice c.args.rows.now cc) (λ x b q k. search (rules, tests)) ∙ sym (any_tenure (has_kept c.args.address) c.args.rows.now)
