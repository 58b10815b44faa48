use Rattle.std.proofs.Common.{length, sym, ap, ◌∙◌, subst}
use Rattle.std.proofs.lemmas.List.{with_items_is}
use Rattle.bng_pool.specs.OneHand.{AreInOneHand, AreInRound}
use Rattle.bng_parts_tests.proofs.pool.plain.Plain.look.Goals as goal

pub look-requires-clause-round : goal.look-requires-clause-round
look-requires-clause-round c = (subst (AreInRound c.self.inside.looker.phase) (sym c.as_mut_slice.ensures.value) c.self.invariant.1.0, c.self.invariant.1.1)

pub invariant_of-self : goal.invariant_of-self
invariant_of-self c = let items = with_items_is c.self.inside.seats c.look.new.seats (c.look.auto.seats ∙ (ap length c.as_mut_slice.ensures.value ∙ sym c.self.inside.seats.ok.0)) in
    let r = c.look.ensures.round in
    (subst (AreInOneHand c.self.inside.pool) (sym items) c.look.ensures.hand, (subst (AreInRound c.look.new.looker.phase) (sym items) (subst (λ z. AreInRound z c.look.new.seats) (sym r.2) r.0), r.1), c.look.ensures.looker)
