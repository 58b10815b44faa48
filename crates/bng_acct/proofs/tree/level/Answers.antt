use Rattle.std.proofs.Common.{◌∷◌, arith, length-append}
use Rattle.bng_acct.proofs.Heights.{low}
use Rattle.bng_acct.proofs.tree.level.Goals as goal

pub overflow_add-behind : goal.overflow_add-behind
overflow_add-behind c =
    let behind = rw c.deref-2.ensures at c.height-behind.ensures in
    omega (arith, behind.value, low c.args.after.value.held c.args.after.value.height behind.flat (omega (arith, c.requires.few, length-append c.args.before.value.held (c.args.held ∷ c.args.after.value.held))))

pub overflow_add-front : goal.overflow_add-front
overflow_add-front c =
    let front = rw c.deref.ensures at c.height-front.ensures in
    omega (arith, front.value, low c.args.before.value.held c.args.before.value.height front.flat (omega (arith, c.requires.few, length-append c.args.before.value.held (c.args.held ∷ c.args.after.value.held))))
