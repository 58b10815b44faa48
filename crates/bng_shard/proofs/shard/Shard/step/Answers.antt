use Rattle.std.proofs.Common.{ℕ, sym, subst, arith}
use Rattle.bng_steps.specs.declared.rules.Rules.{Rules}
use Rattle.bng_steps.specs.Protocol.{entry_of}
use Rattle.bng_steps.specs.Wished.{MayWish}
use Rattle.bng_steps.specs.Wishes.{IsAnswerTo}
use Rattle.bng_shard.specs.Handling.{AnswersClaim, HasPools}
use Rattle.bng_shard.proofs.Answered.{claimed_unused, handles_with}
use Rattle.bng_shard.proofs.shard.Shard.step.Goals as goal

pub claim_wish-claim-requires-clause-shard : goal.claim_wish-claim-requires-clause-shard
claim_wish-claim-requires-clause-shard c = omega (arith, c.requires.shards, c.number.ensures)

pub claim_wish-claim-requires-clause-pools : goal.claim_wish-claim-requires-clause-pools
claim_wish-claim-requires-clause-pools c = subst (λ (r : Rules). HasPools r.pools c.args.pool.now.ranges) (sym c.rules.ensures) c.requires.pools

pub claim_wish-claim-requires-clause-may : goal.claim_wish-claim-requires-clause-may
claim_wish-claim-requires-clause-may c = subst (λ (r : Rules). MayWish r.pools c.wish-wish.result) (sym c.rules.ensures) c.wish-wish.ensures.may

pub step_with-requires-clause-answered : goal.step_with-requires-clause-answered
step_with-requires-clause-answered c = record {
  wish = c.wish-wish.result;
  is_wished = c.wish-wish.ensures.wished;
  answers = subst (λ (r : Rules). IsAnswerTo r.pools c.wish-wish.result c.claim_wish-claim.result) c.rules.ensures c.claim_wish-claim.ensures.answer;
}

pub step_with-requires-clause-unused : goal.step_with-requires-clause-unused
step_with-requires-clause-unused c =
    let v = c.args.self.now in
    let answers = subst (λ (n : ℕ). AnswersClaim n c.claim_wish-claim.result c.args.pool.now c.claim_wish-claim.new.pool) c.number.ensures c.claim_wish-claim.ensures.table in
    claimed_unused v.number c.claim_wish-claim.result v.state.slots c.args.pool.now c.claim_wish-claim.new.pool answers c.requires.held

pub returns : goal.returns
returns c =
    let v = c.args.self.now in
    let answers = subst (λ (n : ℕ). AnswersClaim n c.claim_wish-claim.result c.args.pool.now c.claim_wish-claim.new.pool) c.number.ensures c.claim_wish-claim.ensures.table in
    handles_with v c.step_with.new.self (entry_of c.args.seat c.args.place c.args.now c.args.item.now) c.claim_wish-claim.result c.step_with.result c.args.ledger.now c.step_with.new.ledger c.args.pool.now c.claim_wish-claim.new.pool c.step_with.ensures answers c.requires.held
