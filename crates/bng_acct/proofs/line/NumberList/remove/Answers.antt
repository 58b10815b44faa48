use Rattle.std.proofs.Common.{ℕ, set, sym, ap, subst, ◌∙◌, arith}
use Rattle.std.proofs.lemmas.Grind.{get_or_default_zero}
use Rattle.bng_acct.specs.Queue.{without, IsIn}
use Rattle.bng_acct.specs.Row.{Row, row, at}
use Rattle.bng_acct.proofs.Rows.{row_removed, below_here, below_front, below_behind}
use Rattle.bng_acct.proofs.line.NumberList.remove.Goals as goal

pub index-front-requires : goal.index-front-requires
index-front-requires c =
    let A = c.self.inside.after.items in
    let B = c.self.inside.before.items in
    let end = c.self.inside.end in
    let there = subst (λ (v : Row). IsIn c.args.number v.numbers) (sym c.self.view_is) c.requires in
    omega (arith, below_here A B end c.args.number (row A end).numbers c.self.invariant there, c.self.invariant.before_all)

pub index-behind-requires : goal.index-behind-requires
index-behind-requires c =
    let A = c.self.inside.after.items in
    let B = c.self.inside.before.items in
    let end = c.self.inside.end in
    let there = subst (λ (v : Row). IsIn c.args.number v.numbers) (sym c.self.view_is) c.requires in
    omega (arith, below_here A B end c.args.number (row A end).numbers c.self.invariant there, c.self.invariant.after_all)

pub link-requires-clause-front : goal.link-requires-clause-front
link-requires-clause-front c =
    let A = c.self.inside.after.items in
    let B = c.self.inside.before.items in
    let end = c.self.inside.end in
    let n = c.args.number in
    let r = c.self.invariant in
    let there = subst (λ (v : Row). IsIn n v.numbers) (sym c.self.view_is) c.requires in
    let front = c.index-front.ensures ∙ get_or_default_zero B n c.index-front.result.now (omega (arith, below_here A B end n (row A end).numbers r there, r.before_all)) in
    omega (arith, front, below_front A B end n (row A end).numbers r there)

pub link-requires-clause-behind : goal.link-requires-clause-behind
link-requires-clause-behind c =
    let A = c.self.inside.after.items in
    let B = c.self.inside.before.items in
    let end = c.self.inside.end in
    let n = c.args.number in
    let r = c.self.invariant in
    let there = subst (λ (v : Row). IsIn n v.numbers) (sym c.self.view_is) c.requires in
    let behind = c.index-behind.ensures ∙ get_or_default_zero A n c.index-behind.result.now (omega (arith, below_here A B end n (row A end).numbers r there, r.after_all)) in
    omega (arith, behind, below_behind A B end n (row A end).numbers r there)

pub invariant_of-self : goal.invariant_of-self
invariant_of-self c =
    let A = c.self.inside.after.items in
    let B = c.self.inside.before.items in
    let end = c.self.inside.end in
    let n = c.args.number in
    let r = c.self.invariant in
    let there = subst (λ (v : Row). IsIn n v.numbers) (sym c.self.view_is) c.requires in
    let less = below_here A B end n (row A end).numbers r there in
    let front = c.index-front.ensures ∙ get_or_default_zero B n c.index-front.result.now (omega (arith, less, r.before_all)) in
    let behind = c.index-behind.ensures ∙ get_or_default_zero A n c.index-behind.result.now (omega (arith, less, r.after_all)) in
    let after = c.link.ensures.after ∙ ap (λ (k : ℕ). set A k c.index-behind.result.now) front ∙ ap (λ (k : ℕ). set A (at B n) k) behind in
    let before = c.link.ensures.before ∙ ap (λ (k : ℕ). set B c.index-behind.result.now k) front ∙ ap (λ (k : ℕ). set B k (at B n)) behind in
    rw (after, before) (row_removed A B end n (row A end).numbers r there).is

pub returns-clause-numbers : goal.returns-clause-numbers
returns-clause-numbers c =
    let A = c.self.inside.after.items in
    let B = c.self.inside.before.items in
    let end = c.self.inside.end in
    let n = c.args.number in
    let r = c.self.invariant in
    let there = subst (λ (v : Row). IsIn n v.numbers) (sym c.self.view_is) c.requires in
    let less = below_here A B end n (row A end).numbers r there in
    let front = c.index-front.ensures ∙ get_or_default_zero B n c.index-front.result.now (omega (arith, less, r.before_all)) in
    let behind = c.index-behind.ensures ∙ get_or_default_zero A n c.index-behind.result.now (omega (arith, less, r.after_all)) in
    let after = c.link.ensures.after ∙ ap (λ (k : ℕ). set A k c.index-behind.result.now) front ∙ ap (λ (k : ℕ). set A (at B n) k) behind in
    rw after ((row_removed A B end n (row A end).numbers r there).are ∙ ap (λ (v : Row). without n v.numbers) c.self.view_is)
