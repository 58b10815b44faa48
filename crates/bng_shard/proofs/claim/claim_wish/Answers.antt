use Rattle.std.proofs.Common.{sym, subst}
use Rattle.std.proofs.lemmas.Option.{slice_get_within}
use Rattle.bng_steps.specs.declared.wish.Wish.{Wish}
use Rattle.bng_steps.specs.Wished.{MayWish}
use Rattle.bng_steps.specs.Wishes.{IsAnswerTo}
use Rattle.bng_shard.proofs.AskedPool.{has_address, claim_answers, scan_answers}
use Rattle.bng_shard.proofs.claim.claim_wish.Goals as goal

pub claim-requires-clause-has : goal.claim-requires-clause-has
claim-requires-clause-has c =
    let pools = c.args._rules.now.pools in
    has_address pools c.args.pool.now.ranges c.in-Address.address c.requires.pools (subst (MayWish pools) c.in-Address.is c.requires.may)

pub scan-requires-clause-range : goal.scan-requires-clause-range
scan-requires-clause-range c =
    let pools = c.args._rules.now.pools in
    let (p, at) = subst (MayWish pools) c.in-Pool.is c.requires.may in
    slice_get_within c.args.pool.now.ranges c.in-Pool.place p.range (c.requires.pools c.in-Pool.place p at)

pub returns-in-Address-clause-answer : goal.returns-in-Address-clause-answer
returns-in-Address-clause-answer c =
    let pools = c.args._rules.now.pools in
    let answers = claim_answers c.args.shard c.args.pool.now c.claim.new.self c.claim.ensures.rest.0 c.claim.ensures.rest.1 c.in-Address.address c.claim.result c.claim.ensures.table in
    subst (λ (w : Wish). IsAnswerTo pools w c.claim.result) (sym c.in-Address.is) answers.0

pub returns-in-Address-clause-table : goal.returns-in-Address-clause-table
returns-in-Address-clause-table c =
    (claim_answers c.args.shard c.args.pool.now c.claim.new.self c.claim.ensures.rest.0 c.claim.ensures.rest.1 c.in-Address.address c.claim.result c.claim.ensures.table).1

pub returns-in-Pool-clause-answer : goal.returns-in-Pool-clause-answer
returns-in-Pool-clause-answer c =
    let pools = c.args._rules.now.pools in
    let (p, at) = subst (MayWish pools) c.in-Pool.is c.requires.may in
    let (r, is, scans) = c.scan.ensures.table in
    let answers = scan_answers c.args.shard c.args.pool.now c.scan.new.self c.scan.ensures.rest.0 c.scan.ensures.rest.1 pools c.in-Pool.place p r c.scan.result c.requires.pools at is scans in
    subst (λ (w : Wish). IsAnswerTo pools w c.scan.result) (sym c.in-Pool.is) answers.0

pub returns-in-Pool-clause-table : goal.returns-in-Pool-clause-table
returns-in-Pool-clause-table c =
    let pools = c.args._rules.now.pools in
    let (p, at) = subst (MayWish pools) c.in-Pool.is c.requires.may in
    let (r, is, scans) = c.scan.ensures.table in
    (scan_answers c.args.shard c.args.pool.now c.scan.new.self c.scan.ensures.rest.0 c.scan.ensures.rest.1 pools c.in-Pool.place p r c.scan.result c.requires.pools at is scans).1
