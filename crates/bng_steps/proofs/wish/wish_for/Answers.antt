use Rattle.std.proofs.Common.{sym, subst}
use Rattle.bng_steps.specs.Wished.{WishesFor}
use Rattle.bng_steps.proofs.wish.wish_for.Goals as goal

pub returns-in-Verdict : goal.returns-in-Verdict
returns-in-Verdict g c = subst (λ kind. WishesFor kind c.args.rules.now c.args.served.now c.args.item.now c.args.limited c.verdict_wish.result) (sym c.in-Verdict.is) c.verdict_wish.ensures
