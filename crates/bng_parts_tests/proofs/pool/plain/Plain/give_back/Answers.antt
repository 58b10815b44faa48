use Rattle.std.proofs.Common.{length, sym, ap, ◌∙◌, subst}
use Rattle.std.proofs.lemmas.List.{with_items_is}
use Rattle.bng_pool.specs.OneHand.{AreInOneHand, AreInRound}
use Rattle.bng_parts_tests.proofs.pool.plain.Plain.give_back.Goals as goal

pub give_back-requires-clause-round : goal.give_back-requires-clause-round
give_back-requires-clause-round g c = (subst (AreInRound c.self.inside.looker.phase) (sym c.as_mut_slice.ensures.value) c.self.invariant.1.0, c.self.invariant.1.1)

pub invariant_of-self : goal.invariant_of-self
invariant_of-self g c = let items = with_items_is c.self.inside.seats c.give_back.new.seats (c.give_back.auto.seats ∙ (ap length c.as_mut_slice.ensures.value ∙ sym c.self.inside.seats.ok.0)) in
    let r = c.give_back.ensures.round in
    (subst (AreInOneHand c.self.inside.pool) (sym items) c.give_back.ensures.hand, (subst (AreInRound c.give_back.new.looker.phase) (sym items) r.0, r.1), c.give_back.ensures.looker)
