use Rattle.std.proofs.Common.{◌≡◌, length, sym, ap, ◌∙◌, subst}
use Rattle.std.proofs.lemmas.List.{with_items_is}
use Rattle.bng_pool.specs.Tables.{Table, TableClaims}
use Rattle.bng_pool.specs.OneHand.{table_of, AreInOneHand, AreInRound}
use Rattle.bng_parts_tests.proofs.pool.plain.Plain.claim.Goals as goal

pub claim-requires-clause-round : goal.claim-requires-clause-round
claim-requires-clause-round c = (c.self.inside.looker.phase, subst (AreInRound c.self.inside.looker.phase) (sym c.as_mut_slice.ensures.value) c.self.invariant.1.0)

pub invariant_of-self : goal.invariant_of-self
invariant_of-self c = let items = with_items_is c.self.inside.seats c.claim.new.seats (c.claim.auto.seats ∙ (ap length c.as_mut_slice.ensures.value ∙ sym c.self.inside.seats.ok.0)) in
    let inv = c.self.invariant in
    (subst (AreInOneHand c.self.inside.pool) (sym items) c.claim.ensures.hand, (subst (AreInRound c.self.inside.looker.phase) (sym items) (c.claim.ensures.round c.self.inside.looker.phase (subst (AreInRound c.self.inside.looker.phase) (sym c.as_mut_slice.ensures.value) inv.1.0)), inv.1.1), inv.2)

pub returns-clause-table : goal.returns-clause-table
returns-clause-table c = let items = with_items_is c.self.inside.seats c.claim.new.seats (c.claim.auto.seats ∙ (ap length c.as_mut_slice.ensures.value ∙ sym c.self.inside.seats.ok.0)) in
    let was : table_of c.as_mut_slice.result.now ≡ c.args.self.now.1 = ap table_of c.as_mut_slice.ensures.value ∙ ap (λ z. z.1) c.self.view_is in
    subst (λ (z : Table × Table). TableClaims z.0 c.args.shard c.args.a c.claim.result z.1) (λ i. (was i, table_of (sym items i))) c.claim.ensures.table
