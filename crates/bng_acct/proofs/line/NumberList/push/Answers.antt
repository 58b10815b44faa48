use Rattle.std.proofs.Common.{ℕ, ◌≢◌, ◌<◌, ◌++◌, ◌∷◌, [], List, length, set, sym, ap, subst, ◌∙◌, arith}
use Rattle.std.specs.List.{AllByRecursion}
use Rattle.std.proofs.lemmas.Grind.{get_or_default_zero}
use Rattle.bng_acct.specs.Row.{Row, row}
use Rattle.bng_acct.proofs.Rows.{row_pushed, below_last}
use Rattle.bng_acct.proofs.line.NumberList.push.Goals as goal

pub link-requires-clause-front : goal.link-requires-clause-front
link-requires-clause-front c =
    let A = c.self.inside.after.items in
    let B = c.self.inside.before.items in
    let end = c.self.inside.end in
    let r = c.self.invariant in
    let last = c.index-last.ensures ∙ get_or_default_zero B end c.index-last.result.now (omega (arith, r.before_all)) in
    omega (arith, last, below_last A B end (row A end).numbers r, r.after_all)

pub invariant_of-self : goal.invariant_of-self
invariant_of-self c =
    let A = c.self.inside.after.items in
    let B = c.self.inside.before.items in
    let end = c.self.inside.end in
    let n = c.args.number in
    let r = c.self.invariant in
    let last = c.index-last.ensures ∙ get_or_default_zero B end c.index-last.result.now (omega (arith, r.before_all)) in
    let done = row_pushed A B end n (row A end).numbers r (subst (λ (v : Row). n < v.room) (sym c.self.view_is) c.requires.below)
    (subst (λ (v : Row). AllByRecursion (λ m. m ≢ n) v.numbers) (sym c.self.view_is) c.requires.apart) (subst (λ (v : Row). length v.numbers < v.room) (sym c.self.view_is) c.requires.few) in
    let after = c.link-2.ensures.after ∙ ap (λ (x : List ℕ). set x n end) (c.link.ensures.after ∙ ap (λ (k : ℕ). set A k n) last) in
    let before = c.link-2.ensures.before ∙ ap (λ (x : List ℕ). set x end n) (c.link.ensures.before ∙ ap (λ (k : ℕ). set B n k) last) in
    rw (after, before) done.is

pub returns-clause-numbers : goal.returns-clause-numbers
returns-clause-numbers c =
    let A = c.self.inside.after.items in
    let B = c.self.inside.before.items in
    let end = c.self.inside.end in
    let n = c.args.number in
    let r = c.self.invariant in
    let last = c.index-last.ensures ∙ get_or_default_zero B end c.index-last.result.now (omega (arith, r.before_all)) in
    let done = row_pushed A B end n (row A end).numbers r (subst (λ (v : Row). n < v.room) (sym c.self.view_is) c.requires.below)
    (subst (λ (v : Row). AllByRecursion (λ m. m ≢ n) v.numbers) (sym c.self.view_is) c.requires.apart) (subst (λ (v : Row). length v.numbers < v.room) (sym c.self.view_is) c.requires.few) in
    let after = c.link-2.ensures.after ∙ ap (λ (x : List ℕ). set x n end) (c.link.ensures.after ∙ ap (λ (k : ℕ). set A k n) last) in
    rw after (done.are ∙ ap (λ (v : Row). v.numbers ++ n ∷ []) c.self.view_is)
