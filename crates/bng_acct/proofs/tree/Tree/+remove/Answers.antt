use Rattle.std.proofs.Common.{◌≡◌, List, [], ◌∷◌, ◌++◌, Box, length, arith, length-append, append-nil, sym, ap, subst, ◌∙◌}
use Rattle.std.specs.declared.alloc.Global.{Global}
use Rattle.bng_acct.specs.declared.held.Held.{Held}
use Rattle.bng_acct.specs.declared.tree.Tree.{Tree}
use Rattle.bng_acct.specs.Branch.{Branch}
use Rattle.bng_acct.specs.Roster.{before, Rises}
use Rattle.bng_acct.proofs.Forks.{at_fork, at_leaf}
use Rattle.bng_acct.proofs.Sides.{left_rises, right_rises, edits_left, edits_right, edits_here, edits_nothing}
use Rattle.bng_acct.proofs.tree.Tree.+remove.Goals as goal

pub remove-requires : goal.remove-requires
remove-requires t c =
    let f = at_fork (c.tree.view_is ∙ c.replace-tree.ensures.value) c.tree.invariant c.in-Fork.is in
    let l = c.in-Fork.before.value.held in
    let h = c.in-Fork.here in
    let r = c.in-Fork.after.value.held in
    let rises = subst Rises f.held c.requires.rises in
    let all = length-append l (h ∷ r) in
    let value = c.deref_mut.ensures.value ∙ ap (λ (b : Box Tree Global). b.value) c.in-Fork.before-is in
    rw value (grind (arith, f.held, all, c.decreases), (left_rises l h r rises, (omega (arith, ap length f.held, all, c.requires.few), omega (arith, ap length f.held, all, c.requires.room))))

pub returns-then-is_before-clause-edits : goal.returns-then-is_before-clause-edits
returns-then-is_before-clause-edits t c =
    let f = at_fork (c.tree.view_is ∙ c.replace-tree.ensures.value) c.tree.invariant c.in-Fork.is in
    let l = c.in-Fork.before.value.held in
    let h = c.in-Fork.here in
    let r = c.in-Fork.after.value.held in
    let rises = subst Rises f.held c.requires.rises in
    let earlier = ap (λ (x : Held). before c.args.term x.term) (sym c.in-Fork.here-is) ∙ sym c.if-is_before.ensures in
    let value = c.deref_mut.ensures.value ∙ ap (λ (b : Box Tree Global). b.value) c.in-Fork.before-is in
    let side = rw value at c.remove.ensures.edits in
    let new : c.level.result.held ≡ c.remove.new.self.held ++ h ∷ r = cc (c.level.ensures.held, c.in-Fork.here-is, c.in-Fork.after-is) in
    rw (f.held, new) (edits_left l c.remove.new.self.held h r c.args.term [] rises earlier side)

pub remove-requires-then-is_before-2 : goal.remove-requires-then-is_before-2
remove-requires-then-is_before-2 t c =
    let f = at_fork (c.tree.view_is ∙ c.replace-tree.ensures.value) c.tree.invariant c.in-Fork.is in
    let l = c.in-Fork.before.value.held in
    let h = c.in-Fork.here in
    let r = c.in-Fork.after.value.held in
    let rises = subst Rises f.held c.requires.rises in
    let all = length-append l (h ∷ r) in
    let value = c.deref_mut-then-is_before-2.ensures.value ∙ ap (λ (b : Box Tree Global). b.value) c.in-Fork.after-is in
    rw value (grind (arith, f.held, all, c.decreases), (right_rises l h r rises, (omega (arith, ap length f.held, all, c.requires.few), omega (arith, ap length f.held, all, c.requires.room))))

pub returns-then-is_before-2-clause-edits : goal.returns-then-is_before-2-clause-edits
returns-then-is_before-2-clause-edits t c =
    let f = at_fork (c.tree.view_is ∙ c.replace-tree.ensures.value) c.tree.invariant c.in-Fork.is in
    let l = c.in-Fork.before.value.held in
    let h = c.in-Fork.here in
    let r = c.in-Fork.after.value.held in
    let rises = subst Rises f.held c.requires.rises in
    let later = ap (λ (x : Held). before x.term c.args.term) (sym c.in-Fork.here-is) ∙ sym c.if-is_before-2.ensures in
    let value = c.deref_mut-then-is_before-2.ensures.value ∙ ap (λ (b : Box Tree Global). b.value) c.in-Fork.after-is in
    let side = rw value at c.remove-then-is_before-2.ensures.edits in
    let new : c.level-then-is_before-2.result.held ≡ l ++ h ∷ c.remove-then-is_before-2.new.self.held = cc (c.level-then-is_before-2.ensures.held, c.in-Fork.here-is, c.in-Fork.before-is) in
    rw (f.held, new) (edits_right l h r c.remove-then-is_before-2.new.self.held c.args.term [] rises later side)

pub returns-in-Leaf-clause-edits : goal.returns-in-Leaf-clause-edits
returns-in-Leaf-clause-edits t c =
    let f = at_leaf (c.tree.view_is ∙ c.replace-tree.ensures.value) c.in-Leaf.is in
    let new = c.replace-tree.ensures.after ∙ c.new.ensures in
    rw (f, new) (edits_nothing c.args.term [])

pub returns-in-Some-clause-edits : goal.returns-in-Some-clause-edits
returns-in-Some-clause-edits t c =
    let f = at_fork (c.tree.view_is ∙ c.replace-tree.ensures.value) c.tree.invariant c.in-Fork.is in
    let l = c.in-Fork.before.value.held in
    let h = c.in-Fork.here in
    let r = c.in-Fork.after.value.held in
    let rises = subst Rises f.held c.requires.rises in
    let not_earlier = ap (λ (x : Held). before c.args.term x.term) (sym c.in-Fork.here-is) ∙ sym c.if-is_before.ensures in
    let not_later = ap (λ (x : Held). before x.term c.args.term) (sym c.in-Fork.here-is) ∙ sym c.if-is_before-2.ensures in
    let value = ap (λ (b : Branch). b.held) (c.deref_mut-in-Fork.ensures.value ∙ ap (λ (b : Box Tree Global). b.value) c.in-Fork.after-is) in
    let rest = sym value ∙ c.in-Some.ensures.some in
    let new : c.level-in-Some.result.held ≡ l ++ r = cc (c.level-in-Some.ensures.held, c.in-Fork.before-is, rest) in
    rw (f.held, new) (edits_here l h r c.args.term [] rises not_earlier not_later)

pub returns-in-None-clause-edits : goal.returns-in-None-clause-edits
returns-in-None-clause-edits t c =
    let f = at_fork (c.tree.view_is ∙ c.replace-tree.ensures.value) c.tree.invariant c.in-Fork.is in
    let l = c.in-Fork.before.value.held in
    let h = c.in-Fork.here in
    let r = c.in-Fork.after.value.held in
    let rises = subst Rises f.held c.requires.rises in
    let not_earlier = ap (λ (x : Held). before c.args.term x.term) (sym c.in-Fork.here-is) ∙ sym c.if-is_before.ensures in
    let not_later = ap (λ (x : Held). before x.term c.args.term) (sym c.in-Fork.here-is) ∙ sym c.if-is_before-2.ensures in
    let value = ap (λ (b : Branch). b.held) (c.deref_mut-in-Fork.ensures.value ∙ ap (λ (b : Box Tree Global). b.value) c.in-Fork.after-is) in
    let nothing : r ≡ [] = sym value ∙ ap (λ (b : Branch). b.held) c.in-None.ensures.none.0 in
    let other = ap (λ (b : Branch). b.held) (c.swap.ensures.x_after ∙ c.deref_mut-in-None.ensures.value ∙ ap (λ (b : Box Tree Global). b.value) c.in-Fork.before-is) in
    let new : c.swap.new.x.held ≡ l ++ r = other ∙ sym (append-nil l) ∙ ap (λ (x : List Held). l ++ x) (sym nothing) in
    rw (f.held, new) (edits_here l h r c.args.term [] rises not_earlier not_later)
