use Rattle.std.proofs.Common.{ℕ, Option, arith, refl, subst, sym}
use Rattle.bng_steps.specs.declared.whose.Whose.TheVariants.{Loose, Stands}
use Rattle.bng_steps.specs.Whose.{IsHeldOr}
use Rattle.bng_shard.proofs.Holding.{held_inside}
use Rattle.bng_shard.proofs.holder.held_or.Goals as goal

pub returns-in-Some-clause-is : goal.returns-in-Some-clause-is
returns-in-Some-clause-is c = subst (λ (o : Option ℕ). IsHeldOr c.args.fate o (Stands c.in-Some.shard)) c.in-Some.ensures refl

pub returns-in-Some-clause-inside : goal.returns-in-Some-clause-inside
returns-in-Some-clause-inside c n e =
    let at = held_inside c.args.pool.now.table c.args.address.0 c.args.pool.now.shards c.in-Some.shard c.lists_each_once.ensures.holders (sym c.in-Some.ensures) in
    grind (arith, at, e)

pub returns-in-None-clause-is : goal.returns-in-None-clause-is
returns-in-None-clause-is c = subst (λ (o : Option ℕ). IsHeldOr c.args.fate o (Loose c.args.fate)) c.in-None.ensures refl
