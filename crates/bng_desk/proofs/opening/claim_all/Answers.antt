use Rattle.std.proofs.Common.{◌≡◌, ◌<◌, List, take, refl, sym, ap, subst, ◌∙◌, arith}
use Rattle.std.proofs.lemmas.List.{take_all}
use Rattle.bng_base.specs.declared.book.Range.{Range}
use Rattle.bng_base.specs.declared.settings.Static.{Static}
use Rattle.bng_pool.specs.Ranges.{HasAddress}
use Rattle.bng_pool.specs.Tables.{Table, TableClaims, entry}
use Rattle.bng_desk.specs.Opening.{shard_of}
use Rattle.bng_desk.proofs.Leases.{ClaimedBy, claimed_next}
use Rattle.bng_desk.proofs.opening.claim_all.Goals as goal

pub loop-circuit-init : goal.loop-circuit-init
loop-circuit-init c = record { claimed = λ a. ap (λ (t : Table). entry t a) c.requires.none; ranges = refl; shards = refl }

pub claim-requires-clause-has : goal.claim-requires-clause-has
claim-requires-clause-has c =
    let x = c.circuit-item.result in
    subst (λ (rs : List Range). HasAddress rs x.address.0) (sym c.loop-circuit.invariant.ranges)
    (subst (λ (y : Static). HasAddress c.args.pool.now.ranges y.address.0) (sym c.circuit-item.is) (c.requires.within c.loop-circuit.circuit-index x c.loop-circuit-test.true))

pub claim-requires-clause-shard : goal.claim-requires-clause-shard
claim-requires-clause-shard c =
    let x = c.circuit-item.result in
    let low : shard_of x < c.args.pool.now.shards = subst (λ (y : Static). shard_of y < c.args.pool.now.shards) (sym c.circuit-item.is) (c.requires.inside c.loop-circuit.circuit-index x c.loop-circuit-test.true) in
    omega (arith, low, c.loop-circuit.invariant.shards)

pub loop-circuit-preserved : goal.loop-circuit-preserved
loop-circuit-preserved c =
    let was = c.loop-circuit.invariant in
    let x = c.circuit-item.result in
    let table = c.loop-circuit.pool.table in
    let table' = c.claim.new.self.table in
    record {
      claimed = claimed_next c.args.circuits.now c.loop-circuit.circuit-index x table table' c.claim.result c.loop-circuit-test.true was.claimed
          (subst (λ (y : Static). TableClaims table (shard_of y) y.address c.claim.result table') c.circuit-item.is c.claim.ensures.table);
      ranges = c.claim.ensures.rest.0 ∙ was.ranges;
      shards = c.claim.ensures.rest.1 ∙ was.shards;
    }

pub returns-clause-claimed : goal.returns-clause-claimed
returns-clause-claimed c a =
    let all : take c.loop-circuit.circuit-index c.args.circuits.now ≡ c.args.circuits.now = take_all c.loop-circuit.circuit-index c.args.circuits.now (omega arith) in
    subst (λ (cs : List Static). ClaimedBy cs c.loop-circuit.pool.table) all c.loop-circuit.invariant.claimed a
