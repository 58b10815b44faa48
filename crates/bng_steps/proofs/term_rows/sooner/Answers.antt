use Rattle.std.proofs.Common.{subst, sym, ap, ◌∙◌, arith}
use Rattle.bng_steps.specs.TermRows.{IsFirstOf}
use Rattle.bng_steps.proofs.RowOrder.{default, stays_first}
use Rattle.bng_steps.proofs.term_rows.sooner.Goals as goal

pub returns-then-rows-other : goal.returns-then-rows-other
returns-then-rows-other c =
    let rows = c.args.rows.now in
    let so_far = subst (IsFirstOf c.args.over rows c.args.place) c.in-Some.is c.requires.so_far in
    stays_first c.args.over rows c.args.place c.in-Some.other c.requires.rising c.requires.within so_far (λ d.
    let one = ap (λ r. r.term.session.0) (default rows c.in-Some.other d c.index-rows-other.result (omega (arith, so_far.0, c.requires.within))) in
    let other = ap (λ r. r.term.session.0) (default rows c.args.place d c.index-rows-place.result c.requires.within ∙ sym c.index-rows-place.is) in
    omega (arith, one, other, c.if-rows-other.true))
