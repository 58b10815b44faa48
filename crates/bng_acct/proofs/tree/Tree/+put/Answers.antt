use Rattle.std.proofs.Common.{◌≡◌, [], ◌∷◌, ◌++◌, Box, length, arith, length-append, sym, ap, subst, ◌∙◌}
use Rattle.std.specs.declared.alloc.Global.{Global}
use Rattle.bng_acct.specs.declared.held.Held.{Held}
use Rattle.bng_acct.specs.declared.tree.Tree.{Tree}
use Rattle.bng_acct.specs.Branch.{Branch}
use Rattle.bng_acct.specs.Roster.{before, Rises, of_term}
use Rattle.bng_acct.proofs.Forks.{at_fork, at_leaf}
use Rattle.bng_acct.proofs.Sides.{left_rises, right_rises, found_left, found_right, edits_left, edits_right, edits_here, edits_nothing}
use Rattle.bng_acct.proofs.tree.Tree.+put.Goals as goal

pub put-requires : goal.put-requires
put-requires t c =
    let f = at_fork (c.tree.view_is ∙ c.replace-tree.ensures.value) c.tree.invariant c.in-Fork.is in
    let l = c.in-Fork.before.value.held in
    let h = c.in-Fork.here in
    let r = c.in-Fork.after.value.held in
    let rises = subst Rises f.held c.requires.rises in
    let all = length-append l (h ∷ r) in
    let earlier = ap (λ (x : Held). before c.args.held.term x.term) (sym c.in-Fork.here-is) ∙ sym c.if-is_before.ensures in
    let value = c.deref_mut.ensures.value ∙ ap (λ (b : Box Tree Global). b.value) c.in-Fork.before-is in
    rw value (grind (arith, f.held, all, c.decreases), (left_rises l h r rises, (omega (arith, ap length f.held, all, c.requires.few), λ none. c.requires.spare (ap (of_term c.args.held.term) f.held ∙ found_left c.args.held.term l h r rises earlier ∙ none))))

pub returns-then-is_before-clause-edits : goal.returns-then-is_before-clause-edits
returns-then-is_before-clause-edits t c =
    let f = at_fork (c.tree.view_is ∙ c.replace-tree.ensures.value) c.tree.invariant c.in-Fork.is in
    let l = c.in-Fork.before.value.held in
    let h = c.in-Fork.here in
    let r = c.in-Fork.after.value.held in
    let rises = subst Rises f.held c.requires.rises in
    let earlier = ap (λ (x : Held). before c.args.held.term x.term) (sym c.in-Fork.here-is) ∙ sym c.if-is_before.ensures in
    let value = c.deref_mut.ensures.value ∙ ap (λ (b : Box Tree Global). b.value) c.in-Fork.before-is in
    let side = rw value at c.put.ensures.edits in
    let new : c.level.result.held ≡ c.put.new.self.held ++ h ∷ r = cc (c.level.ensures.held, c.in-Fork.here-is, c.in-Fork.after-is) in
    rw (f.held, new) (edits_left l c.put.new.self.held h r c.args.held.term (c.args.held ∷ []) rises earlier side)

pub put-requires-then-is_before-2 : goal.put-requires-then-is_before-2
put-requires-then-is_before-2 t c =
    let f = at_fork (c.tree.view_is ∙ c.replace-tree.ensures.value) c.tree.invariant c.in-Fork.is in
    let l = c.in-Fork.before.value.held in
    let h = c.in-Fork.here in
    let r = c.in-Fork.after.value.held in
    let rises = subst Rises f.held c.requires.rises in
    let all = length-append l (h ∷ r) in
    let later = ap (λ (x : Held). before x.term c.args.held.term) (sym c.in-Fork.here-is) ∙ sym c.if-is_before-2.ensures in
    let value = c.deref_mut-then-is_before-2.ensures.value ∙ ap (λ (b : Box Tree Global). b.value) c.in-Fork.after-is in
    rw value (grind (arith, f.held, all, c.decreases), (right_rises l h r rises, (omega (arith, ap length f.held, all, c.requires.few), λ none. c.requires.spare (ap (of_term c.args.held.term) f.held ∙ found_right c.args.held.term l h r rises later ∙ none))))

pub returns-then-is_before-2-clause-edits : goal.returns-then-is_before-2-clause-edits
returns-then-is_before-2-clause-edits t c =
    let f = at_fork (c.tree.view_is ∙ c.replace-tree.ensures.value) c.tree.invariant c.in-Fork.is in
    let l = c.in-Fork.before.value.held in
    let h = c.in-Fork.here in
    let r = c.in-Fork.after.value.held in
    let rises = subst Rises f.held c.requires.rises in
    let later = ap (λ (x : Held). before x.term c.args.held.term) (sym c.in-Fork.here-is) ∙ sym c.if-is_before-2.ensures in
    let value = c.deref_mut-then-is_before-2.ensures.value ∙ ap (λ (b : Box Tree Global). b.value) c.in-Fork.after-is in
    let side = rw value at c.put-then-is_before-2.ensures.edits in
    let new : c.level-then-is_before-2.result.held ≡ l ++ h ∷ c.put-then-is_before-2.new.self.held = cc (c.level-then-is_before-2.ensures.held, c.in-Fork.here-is, c.in-Fork.before-is) in
    rw (f.held, new) (edits_right l h r c.put-then-is_before-2.new.self.held c.args.held.term (c.args.held ∷ []) rises later side)

pub returns-else-is_before-2-clause-edits : goal.returns-else-is_before-2-clause-edits
returns-else-is_before-2-clause-edits t c =
    let f = at_fork (c.tree.view_is ∙ c.replace-tree.ensures.value) c.tree.invariant c.in-Fork.is in
    let l = c.in-Fork.before.value.held in
    let h = c.in-Fork.here in
    let r = c.in-Fork.after.value.held in
    let rises = subst Rises f.held c.requires.rises in
    let not_earlier = ap (λ (x : Held). before c.args.held.term x.term) (sym c.in-Fork.here-is) ∙ sym c.if-is_before.ensures in
    let not_later = ap (λ (x : Held). before x.term c.args.held.term) (sym c.in-Fork.here-is) ∙ sym c.if-is_before-2.ensures in
    let new : c.fork-in-Fork.result.held ≡ l ++ c.args.held ∷ r = cc (ap (λ (b : Branch). b.held) c.fork-in-Fork.ensures, c.in-Fork.before-is, c.in-Fork.after-is) in
    rw (f.held, new) (edits_here l h r c.args.held.term (c.args.held ∷ []) rises not_earlier not_later)

pub returns-in-Leaf-clause-edits : goal.returns-in-Leaf-clause-edits
returns-in-Leaf-clause-edits t c =
    let f = at_leaf (c.tree.view_is ∙ c.replace-tree.ensures.value) c.in-Leaf.is in
    rw (f, c.fork.ensures, c.take-before.ensures.value, c.take-after.ensures.value) (edits_nothing c.args.held.term (c.args.held ∷ []))
