use Rattle.std.proofs.Common.{◌≡◌, refl, ap, subst, arith}
use Rattle.std.specs.Prelude.{ℕ, Option}
use Rattle.bng_pool.specs.Seats.{PoolView, IsFoundAt}
use Rattle.bng_steps.specs.declared.whose.Whose.TheVariants.{Stands}
use Rattle.bng_round.proofs.Answering.{goes_looked}
use Rattle.bng_round.proofs.finding.held_or.Goals as goal

stands_is : (n m : ℕ) → Stands n ≡ Stands m → n ≡ m
stands_is n m e = cc

pub returns-in-Some-clause-goes : goal.returns-in-Some-clause-goes
returns-in-Some-clause-goes c = goes_looked c.args.address.0 c.look.result c.args.looker.now c.look.new.seat c.look.ensures.rest c.look.ensures.says

pub returns-in-Some-clause-found : goal.returns-in-Some-clause-found
returns-in-Some-clause-found c = (subst (λ (o : Option ℕ). IsFoundAt c.args.address.0 o c.args.looker.now c.look.new.seat) c.in-Some.is c.look.ensures.says.found_is).2 c.requires.round

pub returns-in-Some-clause-inside : goal.returns-in-Some-clause-inside
returns-in-Some-clause-inside c n is =
    let low = (subst (λ (o : Option ℕ). IsFoundAt c.args.address.0 o c.args.looker.now c.look.new.seat) c.in-Some.is c.look.ensures.says.found_is).1 in
    let at = stands_is c.in-Some.shard n is in
    let shards = ap (λ (p : PoolView). p.shards) c.requires.pool in
    omega arith

pub returns-in-None-clause-goes : goal.returns-in-None-clause-goes
returns-in-None-clause-goes c = goes_looked c.args.address.0 c.look.result c.args.looker.now c.look.new.seat c.look.ensures.rest c.look.ensures.says

pub returns-in-None-clause-found : goal.returns-in-None-clause-found
returns-in-None-clause-found c = (refl, λ has. (subst (λ (o : Option ℕ). IsFoundAt c.args.address.0 o c.args.looker.now c.look.new.seat) c.in-None.is c.look.ensures.says.found_is has).0)
