use Rattle.std.proofs.Common.{◌≡◌, None, Some, ap, sym, ◌∙◌}
use Rattle.bng_base.specs.declared.circuit.TermId.{TermId}
use Rattle.bng_acct.specs.declared.held.Held.{Held}
use Rattle.bng_acct.specs.Roster.{of_term}
use Rattle.bng_acct.proofs.Marks.{term-with, term_of}
use Rattle.bng_acct.proofs.spool.release.Goals as goal

no_held : (x : Held) → Some x ≡ None → ⊥
no_held x e = cc

pub put-requires : goal.put-requires
put-requires c = λ none.
    let held = c.args.roster.now.held in
    let here = ap (λ (h : Held). h.term) c.with_number-left.ensures ∙ term-with c.args.status None c.in-Some.held ∙ term_of c.args.term held c.in-Some.held (sym c.in-Some.ensures.held) in
    absurd (no_held c.in-Some.held (c.in-Some.ensures.held ∙ ap (λ (t : TermId). of_term t held) (sym here) ∙ none))
