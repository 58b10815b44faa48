use Rattle.std.proofs.Common.{arith, length-append, sym, ap, subst, ◌∙◌, ◌∷◌}
use Rattle.bng_acct.specs.Roster.{Rises, of_term}
use Rattle.bng_acct.proofs.Forks.{at_fork}
use Rattle.bng_acct.proofs.Sides.{left_rises, right_rises, found_left, found_right, found_here}
use Rattle.bng_acct.proofs.tree.Tree.+get.Goals as goal

pub get-requires : goal.get-requires
get-requires t c =
    let f = at_fork c.self.view_is c.self.invariant c.in-Fork.is in
    let rises = left_rises c.in-Fork.before.value.held c.in-Fork.here c.in-Fork.after.value.held (subst Rises f.held c.requires) in
    let all = length-append c.in-Fork.before.value.held (c.in-Fork.here ∷ c.in-Fork.after.value.held) in
    rw c.deref.ensures (grind (arith, f.held, all, c.decreases), rises)

pub get-requires-then-is_before-2 : goal.get-requires-then-is_before-2
get-requires-then-is_before-2 t c =
    let f = at_fork c.self.view_is c.self.invariant c.in-Fork.is in
    let rises = right_rises c.in-Fork.before.value.held c.in-Fork.here c.in-Fork.after.value.held (subst Rises f.held c.requires) in
    let all = length-append c.in-Fork.before.value.held (c.in-Fork.here ∷ c.in-Fork.after.value.held) in
    rw c.deref-then-is_before-2.ensures (grind (arith, f.held, all, c.decreases), rises)

pub returns-then-is_before : goal.returns-then-is_before
returns-then-is_before t c =
    let f = at_fork c.self.view_is c.self.invariant c.in-Fork.is in
    let found = found_left c.args.term c.in-Fork.before.value.held c.in-Fork.here c.in-Fork.after.value.held (subst Rises f.held c.requires) (sym c.if-is_before.ensures) in
    rw c.deref.ensures at c.get.ensures ∙ sym (ap (of_term c.args.term) f.held ∙ found)

pub returns-then-is_before-2 : goal.returns-then-is_before-2
returns-then-is_before-2 t c =
    let f = at_fork c.self.view_is c.self.invariant c.in-Fork.is in
    let found = found_right c.args.term c.in-Fork.before.value.held c.in-Fork.here c.in-Fork.after.value.held (subst Rises f.held c.requires) (sym c.if-is_before-2.ensures) in
    rw c.deref-then-is_before-2.ensures at c.get-then-is_before-2.ensures ∙ sym (ap (of_term c.args.term) f.held ∙ found)

pub returns-else-is_before-2 : goal.returns-else-is_before-2
returns-else-is_before-2 t c =
    let f = at_fork c.self.view_is c.self.invariant c.in-Fork.is in
    let found = found_here c.args.term c.in-Fork.before.value.held c.in-Fork.here c.in-Fork.after.value.held (subst Rises f.held c.requires) (sym c.if-is_before.ensures) (sym c.if-is_before-2.ensures) in
    sym (ap (of_term c.args.term) f.held ∙ found)
